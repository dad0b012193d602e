use Rattle.std.proofs.Common.{◌≡◌, ◌≤◌, ◌<◌, ◌+◌, ◌-◌, length, get_or, set, length-set, min, arith, sym, subst, refl, ◌∙◌}
use Rattle.std.specs.Prelude.{slice_index}
use Rattle.std.proofs.lemmas.List.{get_or_read}
use Rattle.spill_plan.specs.Spans.{span_at}
use Rattle.spill_plan.specs.Spilled.{AreStartsByRank}
use Rattle.spill_plan.proofs.Raisings.{none_found, picked, next_raised, raised_starts, closed_starts}
use Rattle.spill_plan.proofs.spilled.Spilled.raise.Goals as goal

pub returns-in_default-clause-raised : goal.returns-in_default-clause-raised
returns-in_default-clause-raised c =
    let spans = c.requires.spans in
    let i = c.loop-missing.invariant in
    absurd (none_found c.args.spans.now spans.0 c.args.ranks.now c.loop-missing.self.amounts.items c.loop-missing.self.starts c.args.step
    c.loop-missing.missing spans.1 c.requires.ranking
    i.starts (omega arith) i.room (omega (arith, spans.1.steps_few, spans.2))
    (λ s h. omega (arith, c.in_default.ensures s h, c.from.ensures)))

pub overflow_sub-index_mut : goal.overflow_sub-index_mut
overflow_sub-index_mut c =
    let xs = c.args.spans.now in
    let ranks = c.args.ranks.now in
    let amounts = c.loop-missing.self.amounts.items in
    let leaving = c.loop-missing.self.leaving.items in
    let inv = c.loop-missing.invariant in
    let spans = c.requires.spans in
    let r = c.in-Some.rank in
    let i = get_or ranks r 0 in
    let part = c.min-part.result in
    let p = picked xs spans.0 ranks amounts c.loop-missing.self.starts c.args.step c.loop-missing.missing c.from.result r spans.1
    c.requires.ranking inv.starts (omega arith) inv.room
    (omega (arith, spans.1.steps_few, spans.2)) (omega (arith, c.from.ensures)) c.in-Some.ensures in
    let in_amounts : i < length amounts = omega (arith, inv.len, p.item_in) in
    let in_leaving : (span_at xs i).end < length leaving = omega (arith, inv.len_leaving, spans.1.ends i p.item_in, spans.3) in
    let room = get_or_read amounts i c.index.result.now in_amounts c.index.ensures 0 in
    let was = get_or_read amounts i c.index_mut.result.now in_amounts c.index_mut.ensures.value 0 in
    let left = get_or_read leaving (span_at xs i).end c.index_mut-in-loop-missing.result.now in_leaving
    c.index_mut-in-loop-missing.ensures.value 0 in
    let part_is : part ≡ min ((span_at xs i).size - get_or amounts i 0) c.loop-missing.missing = omega (arith, c.min-part.ensures, room) in
    let next = next_raised xs ranks amounts leaving c.args.step part c.loop-missing.missing c.args.over r
    (slice_index c.args.self.now.amounts.items) p inv.len in_leaving part_is inv.below inv.left inv.room inv.raising in
    omega (arith, next.enough, left)

pub loop-missing-preserved-then-part-room : goal.loop-missing-preserved-then-part-room
loop-missing-preserved-then-part-room c =
    let xs = c.args.spans.now in
    let ranks = c.args.ranks.now in
    let amounts = c.loop-missing.self.amounts.items in
    let leaving = c.loop-missing.self.leaving.items in
    let inv = c.loop-missing.invariant in
    let spans = c.requires.spans in
    let r = c.in-Some.rank in
    let i = get_or ranks r 0 in
    let part = c.min-part.result in
    let p = picked xs spans.0 ranks amounts c.loop-missing.self.starts c.args.step c.loop-missing.missing c.from.result r spans.1
    c.requires.ranking inv.starts (omega arith) inv.room
    (omega (arith, spans.1.steps_few, spans.2)) (omega (arith, c.from.ensures)) c.in-Some.ensures in
    let in_amounts : i < length amounts = omega (arith, inv.len, p.item_in) in
    let in_leaving : (span_at xs i).end < length leaving = omega (arith, inv.len_leaving, spans.1.ends i p.item_in, spans.3) in
    let room = get_or_read amounts i c.index.result.now in_amounts c.index.ensures 0 in
    let was = get_or_read amounts i c.index_mut.result.now in_amounts c.index_mut.ensures.value 0 in
    let left = get_or_read leaving (span_at xs i).end c.index_mut-in-loop-missing.result.now in_leaving
    c.index_mut-in-loop-missing.ensures.value 0 in
    let part_is : part ≡ min ((span_at xs i).size - get_or amounts i 0) c.loop-missing.missing = omega (arith, c.min-part.ensures, room) in
    let next = next_raised xs ranks amounts leaving c.args.step part c.loop-missing.missing c.args.over r
    (slice_index c.args.self.now.amounts.items) p inv.len in_leaving part_is inv.below inv.left inv.room inv.raising in
    let fits : part + get_or amounts i 0 ≤ (span_at xs i).size = omega (arith, p.room) in
    rw (was, left) (record {
      below = omega (arith, inv.below);
      none = λ e. absurd (omega (arith, e, inv.below, part_is, p.room));
      raising = next.raising;
      len = length-set amounts i (get_or amounts i 0 + part) ∙ inv.len;
      len_leaving = length-set leaving (span_at xs i).end (get_or leaving (span_at xs i).end 0 - part) ∙ inv.len_leaving;
      starts = subst (AreStartsByRank xs ranks (set amounts i (get_or amounts i 0 + part))) (sym c.put.ensures)
          (closed_starts xs amounts i part inv.len p.item_in fits ranks c.loop-missing.self.starts r c.requires.ranking inv.starts
          p.rank_in refl (omega (arith, room)));
      left = next.left;
      room = next.room;
    })

pub loop-missing-preserved : goal.loop-missing-preserved
loop-missing-preserved c =
    let xs = c.args.spans.now in
    let ranks = c.args.ranks.now in
    let amounts = c.loop-missing.self.amounts.items in
    let leaving = c.loop-missing.self.leaving.items in
    let inv = c.loop-missing.invariant in
    let spans = c.requires.spans in
    let r = c.in-Some.rank in
    let i = get_or ranks r 0 in
    let part = c.min-part.result in
    let p = picked xs spans.0 ranks amounts c.loop-missing.self.starts c.args.step c.loop-missing.missing c.from.result r spans.1
    c.requires.ranking inv.starts (omega arith) inv.room
    (omega (arith, spans.1.steps_few, spans.2)) (omega (arith, c.from.ensures)) c.in-Some.ensures in
    let in_amounts : i < length amounts = omega (arith, inv.len, p.item_in) in
    let in_leaving : (span_at xs i).end < length leaving = omega (arith, inv.len_leaving, spans.1.ends i p.item_in, spans.3) in
    let room = get_or_read amounts i c.index.result.now in_amounts c.index.ensures 0 in
    let was = get_or_read amounts i c.index_mut.result.now in_amounts c.index_mut.ensures.value 0 in
    let left = get_or_read leaving (span_at xs i).end c.index_mut-in-loop-missing.result.now in_leaving
    c.index_mut-in-loop-missing.ensures.value 0 in
    let part_is : part ≡ min ((span_at xs i).size - get_or amounts i 0) c.loop-missing.missing = omega (arith, c.min-part.ensures, room) in
    let next = next_raised xs ranks amounts leaving c.args.step part c.loop-missing.missing c.args.over r
    (slice_index c.args.self.now.amounts.items) p inv.len in_leaving part_is inv.below inv.left inv.room inv.raising in
    let fits : part + get_or amounts i 0 ≤ (span_at xs i).size = omega (arith, p.room) in
    rw (was, left) (record {
      below = omega (arith, inv.below);
      none = λ e. absurd (omega (arith, e, inv.below, part_is, p.room));
      raising = next.raising;
      len = length-set amounts i (get_or amounts i 0 + part) ∙ inv.len;
      len_leaving = length-set leaving (span_at xs i).end (get_or leaving (span_at xs i).end 0 - part) ∙ inv.len_leaving;
      starts = raised_starts xs amounts i part inv.len p.item_in fits ranks c.loop-missing.self.starts r c.requires.ranking inv.starts
          p.rank_in refl (omega (arith, c.if-part-room.false, room));
      left = next.left;
      room = next.room;
    })
