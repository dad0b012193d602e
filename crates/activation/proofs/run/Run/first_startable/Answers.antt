use Rattle.std.proofs.Common.{◌≡◌, get_or, arith}
use Rattle.std.proofs.lemmas.List.{get_or_read}
use Rattle.activation.proofs.Clocks.{first_is_startable, none_startable}
use Rattle.activation.proofs.run.Run.first_startable.Goals as goal

pub returns-clause-within : goal.returns-clause-within
returns-clause-within c =
    let f = c.self.inside in
    let k = c.keeps.ensures in
    let i = c.self.invariant in
    let rank = c.in_ok-rank.rank in
    let first = c.in_ok-rank.ensures.some in
    let read : c.index.result.now ≡ get_or f.room.priority.items rank 0 = get_or_read f.room.priority.items rank c.index.result.now
    (omega (arith, first.within, i.ready_long, i.ranked.long)) c.index.ensures 0 in
    rw (← c.self.view_is, read) (first_is_startable c.order_law.ensures.long k.setting k.safe i rank first).0

pub returns-clause-some : goal.returns-clause-some
returns-clause-some c =
    let f = c.self.inside in
    let k = c.keeps.ensures in
    let i = c.self.invariant in
    let rank = c.in_ok-rank.rank in
    let first = c.in_ok-rank.ensures.some in
    let read : c.index.result.now ≡ get_or f.room.priority.items rank 0 = get_or_read f.room.priority.items rank c.index.result.now
    (omega (arith, first.within, i.ready_long, i.ranked.long)) c.index.ensures 0 in
    rw (← c.self.view_is, read) (first_is_startable c.order_law.ensures.long k.setting k.safe i rank first).1

pub returns-in_err-rank-clause-none : goal.returns-in_err-rank-clause-none
returns-in_err-rank-clause-none c =
    let k = c.keeps.ensures in
    rw (← c.self.view_is, c.from_residual.ensures)
    (none_startable c.order_law.ensures.long k.setting k.safe c.self.invariant c.in_err-rank.ensures.none)
