use Rattle.std.proofs.Common.{◌≡◌, ◌+◌, ◌∷◌, arith, ap, drop, slice_set}
use Rattle.segment_merge.specs.Merging.{segment_count}
use Rattle.segment_merge.proofs.Kept.{count_cons}
use Rattle.segment_merge.proofs.Later.{following_on, following_ends, first_of_rest, none_of_rest}
use Rattle.segment_merge.proofs.merging.take_after.Goals as goal

pub loop-place-preserved : goal.loop-place-preserved
loop-place-preserved g c =
    let back = drop (c.loop-place.place-index + 1) (slice_set c.loop-place.sides c.loop-place.place-index c.replace-side.new.dest) in
    let first : drop c.loop-place.place-index c.loop-place.sides ≡ c.replace-side.result ∷ back =
    first_of_rest c.loop-place.sides c.loop-place.place-index c.replace-side.new.dest _ _
    (let a = c.loop-place.auto.sides in let b = c.loop-place-test.true in omega arith) c.replace-side.ensures.value in
    record {
      following = following_on c.runs.ensures _ _ _ _ _ _ _ _ c.loop-place.invariant.following
          first _ _ c.move_all.ensures.kept c.move_all.ensures.ropes c.keeps.ensures.2
          c.keeps-in-loop-place.ensures.2 c.in_ok-move_all.ensures.segments c.in_ok-move_all.ensures.net;
      steps =
          let e = ap segment_count first in
          let k = count_cons c.replace-side.result back in
          let s = c.loop-place.invariant.steps in
          let t = c.in_ok-move_all.ensures.steps in
          omega arith;
      ticks = let s = c.loop-place.invariant.ticks in let t = c.move_all.ensures.ticks_stay in omega arith;
    }

pub returns-clause-segments : goal.returns-clause-segments
returns-clause-segments g c =
    following_ends c.runs.ensures _ _ _ _ _ _ c.loop-place.invariant.following
    (none_of_rest c.loop-place.sides c.loop-place.place-index
    (let a = c.loop-place.auto.place-index-end in let b = c.loop-place-test.false in omega arith))
    c.keeps-2.ensures.2
