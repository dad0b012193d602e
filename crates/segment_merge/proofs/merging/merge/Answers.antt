use Rattle.std.proofs.Common.{◌≡◌, arith, refl, sym, ◌∙◌}
use Rattle.hill_valley.specs.Side.{runs_of}
use Rattle.segment_merge.specs.Merging.{merge_runs, all_runs_of}
use Rattle.segment_merge.proofs.Kept.{each_kept, all_kept}
use Rattle.segment_merge.proofs.Merged.{around, none_left, around_ropes, around_net, around_merged, merged_profile}
use Rattle.segment_merge.proofs.Merged.{merged_net, merged_interleaved, merged_lowest, merged_top}
use Rattle.segment_merge.proofs.merging.merge.Given.{Over}
use Rattle.segment_merge.proofs.merging.merge.Goals.{In_ok-take_after}
use Rattle.segment_merge.proofs.merging.merge.Goals as goal

pub take_before-requires-clause-net : goal.take_before-requires-clause-net
take_before-requires-clause-net g c = let t =
    around_net _ _ _ _
    (around c.deref_mut.ensures.value c.split_at_mut-before.ensures.value c.in-Some.ensures.cases.0 c.replace-merged.ensures.value) in
    let n = c.requires.net in
    omega arith

pub take_after-requires-clause-sides : goal.take_after-requires-clause-sides
take_after-requires-clause-sides g c =
    let a = around c.deref_mut.ensures.value c.split_at_mut-before.ensures.value c.in-Some.ensures.cases.0 c.replace-merged.ensures.value in
    all_kept c.runs.ensures _ _ _ (around_ropes _ _ _ _ a c.args.ropes.now c.requires.ropes).2 c.take_before.ensures.kept

-- the runs of the merged side
told : (g : Over) (c : In_ok-take_after g)
    → runs_of c.take_after.new.ropes c.take_after.new.into ≡ merge_runs (all_runs_of c.args.ropes.now c.args.sides.items)
told g c =
    let a = around c.deref_mut.ensures.value c.split_at_mut-before.ensures.value c.in-Some.ensures.cases.0 c.replace-merged.ensures.value in
    let r = around_ropes _ _ _ _ a c.args.ropes.now c.requires.ropes in
    let later = each_kept c.runs.ensures _ _ _ r.2 c.take_before.ensures.kept in
    c.in_ok-take_after.ensures.segments ∙ rw (c.in_ok-take_before.ensures.segments, later) (around_merged _ _ _ _ a c.args.ropes.now)

pub returns-clause-segments : goal.returns-clause-segments
returns-clause-segments g c = told g (goal.at.returns-clause-segments g c).In_ok-take_after

pub returns-clause-interleaved : goal.returns-clause-interleaved
returns-clause-interleaved g c =
    merged_interleaved c.runs.ensures _ _ _ _ (rw c.deref.ensures.value at c.longest_place-place.ensures.sides)
    (told g (goal.at.returns-clause-interleaved g c).In_ok-take_after)

pub returns-clause-net : goal.returns-clause-net
returns-clause-net g c =
    merged_net c.runs.ensures _ _ _ _ (rw c.deref.ensures.value at c.longest_place-place.ensures.sides)
    (told g (goal.at.returns-clause-net g c).In_ok-take_after) c.merging.ensures.net

pub returns-clause-profile : goal.returns-clause-profile
returns-clause-profile g c =
    merged_profile c.runs.ensures _ _ _ _ (rw c.deref.ensures.value at c.longest_place-place.ensures.sides)
    (told g (goal.at.returns-clause-profile g c).In_ok-take_after)

pub returns-clause-lowest : goal.returns-clause-lowest
returns-clause-lowest g c =
    merged_lowest c.runs.ensures _ _ _ _ (rw c.deref.ensures.value at c.longest_place-place.ensures.sides)
    (told g (goal.at.returns-clause-lowest g c).In_ok-take_after) c.merging.ensures.net c.merging.ensures.lowest

pub returns-clause-top : goal.returns-clause-top
returns-clause-top g c =
    merged_top c.runs.ensures _ _ _ _ (rw c.deref.ensures.value at c.longest_place-place.ensures.sides)
    (told g (goal.at.returns-clause-top g c).In_ok-take_after) c.merging.ensures.net c.merging.ensures.top

pub returns-in_default-clause-lowest : goal.returns-in_default-clause-lowest
returns-in_default-clause-lowest g c =
    let within = rw c.deref.ensures.value at c.longest_place-place.ensures.within in
    let none = none_left c.args.sides.items c.split_at_mut-before.result.0.now c.split_at_mut-before.result.1.now
    (sym c.deref_mut.ensures.value ∙ c.split_at_mut-before.ensures.value)
    (let n = c.split_at_mut-before.ensures.front_len in omega (arith, within, n))
    (let h = c.in_default.ensures.cases in omega arith) in
    merged_lowest c.runs.ensures c.args.ropes.now c.args.ropes.now c.args.sides.items c.new.result
    (rw c.deref.ensures.value at c.longest_place-place.ensures.sides)
    (rw (c.new.ensures.empty, none) refl) c.merging.ensures.net c.merging.ensures.lowest
