use Rattle.std.proofs.Common.{◌≡◌, ◌∷◌, [], ◌++◌, arith, ap, sym, ◌∙◌}
use Rattle.std.specs.Slice.Iter.{iter_mut_rest}
use Rattle.std.specs.Iterator.Adapters.{rev_source}
use Rattle.segment_merge.specs.Merging.{segment_count}
use Rattle.segment_merge.proofs.Kept.{count_append}
use Rattle.segment_merge.proofs.Earlier.{taking_on}
use Rattle.segment_merge.proofs.merging.take_before.Goals as goal

pub loop-place-preserved : goal.loop-place-preserved
loop-place-preserved g c =
    let front = iter_mut_rest (rev_source c.next.new.self) in
    let last : iter_mut_rest (rev_source c.loop-place.place-iterator) ≡ front ++ c.replace-side.result ∷ [] =
    c.in-Some.ensures.steps ∙ ap (λ s. front ++ s ∷ []) (sym c.replace-side.ensures.value) in
    record {
      taking = taking_on c.runs.ensures _ _ _ _ _ _ _ _ c.loop-place.invariant.taking last _ _ c.move_all.ensures.kept
          c.move_all.ensures.ropes c.keeps.ensures.2 c.in_ok-move_all.ensures.segments c.in_ok-move_all.ensures.net;
      steps =
          let e = ap segment_count last in
          let k = count_append front (c.replace-side.result ∷ []) in
          let s = c.loop-place.invariant.steps in
          let t = c.in_ok-move_all.ensures.steps in
          omega arith;
      ticks = let s = c.loop-place.invariant.ticks in let t = c.move_all.ensures.ticks_stay in omega arith;
    }
