use Rattle.std.proofs.Common.{◌≡◌, ◌<◌, length, get_or, arith, sym, subst, List, ℕ}
use Rattle.std.proofs.lemmas.List.{get_or_read}
use Rattle.row_table.specs.Rows.{row_at}
use Rattle.graphs.specs.Queue.{IsArcRow}
use Rattle.graphs.proofs.QueueLemmas.{judged}
use Rattle.graphs.proofs.queue.take_all.Goals as goal

pub take_next-requires-clause-row : goal.take_next-requires-clause-row
take_next-requires-clause-row c =
    let queue = c.loop-at.queue.items in
    let at = c.loop-at.at in
    let lt : at < length queue = omega (arith, c.loop-at-test.true, c.len.ensures, c.loop-at.queue.ok) in
    let u = c.index.result.now in
    let is : u ≡ get_or queue at 0 = get_or_read queue at u lt c.index.ensures 0 in
    let small = (c.loop-at.invariant.queued.within at 0 lt).1 in
    subst (λ (row : List ℕ). IsArcRow c.args.arcs.now row (get_or queue at 0)) (sym c.row-row.ensures)
    (subst (IsArcRow c.args.arcs.now (row_at c.args.rows.now u)) is (c.requires.rows.1 u (omega (arith, small, is))))

pub returns-clause-judged : goal.returns-clause-judged
returns-clause-judged c =
    let l = c.loop-at in
    judged c.args.count c.args.arcs.now l.waits l.queue.items l.at l.invariant
    (omega (arith, c.loop-at-test.false, c.len.ensures, l.queue.ok)) c.requires.within
