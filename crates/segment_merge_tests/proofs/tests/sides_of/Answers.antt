use Rattle.std.proofs.Common.{length, arith, ap, List, length-append, ◌∷◌, []}
use Rattle.hill_valley.specs.declared.side.Seg.{Seg}
use Rattle.segment_merge.specs.Merging.{net_sum_all}
use Rattle.segment_merge.proofs.Kept.{all_kept, ropes_append, net_append}
use Rattle.segment_merge_tests.proofs.tests.sides_of.Goals as goal

pub loop-list-preserved : goal.loop-list-preserved
loop-list-preserved c =
    let e = c.in_ok-push.ensures.items in
    let n = length-append c.loop-list.sides.items (c.in_ok-side.side ∷ []) in
    let l = ap (length {A = List Seg}) e in
    let a = ap net_sum_all e in
    let b = net_append c.loop-list.sides.items (c.in_ok-side.side ∷ []) in
    let i = c.loop-list.invariant.net in
    let s = c.in_ok-side.ensures.net in
    let f = c.loop-list.invariant.few in
    record {
      ropes = rw e
          (ropes_append _ c.loop-list.sides.items (c.in_ok-side.side ∷ [])
          (all_kept c.runs.ensures _ _ _ c.loop-list.invariant.ropes c.side_of.ensures.kept) (c.in_ok-side.ensures.ropes, tt));
      net = omega arith;
      few = omega arith;
    }
