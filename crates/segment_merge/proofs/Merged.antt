-- The sides on both hands of the one that takes them in.
use Rattle.std.proofs.Common.{◌≡◌, ℕ, ◌+◌, ◌-◌, ◌≤◌, List, [], ◌∷◌, ◌++◌, refl, ap, sym, ◌∙◌, arith, length, length-append}
use Rattle.side_laws.specs.Segments.{net_sum, lowest, top}
use Rattle.side_laws.specs.Merging.{merge_segments, AllRising, AreStuckAt, IsLeastTogether, IsInterleaving}
use Rattle.side_laws.specs.Laws.{NetOfInserts, LowestOfMerge, TopOfMerge}
use Rattle.hill_valley.specs.declared.side.Seg.{Seg}
use Rattle.hill_valley.specs.Side.{profile, HaveRopes, runs_of, run_profile, tasks_of}
use Rattle.segment_merge.specs.Merging.{insert_runs, merge_runs, all_tasks_of, all_runs_of, profiles, AllHaveRopes, AllSides, net_sum_all}
use Rattle.hill_valley.specs.Laws.{RunLaws}
use Rattle.segment_merge.proofs.Order.{merged_append, put_assoc}
use Rattle.segment_merge.proofs.Kept.{each_append, ropes_front, ropes_last, net_append, net_cons}
use Rattle.segment_merge.proofs.Profiles.{profile_merge, profiles_runs, net_merge}
use Rattle.segment_merge.proofs.Interleaving.{interleaved}

-- `front`, `side` and `after` are all sides
pub record Around (sides front : List (List Seg)) (side : List Seg) (after : List (List Seg)) : Type 0 where
  pub split : front ++ side ∷ after ≡ sides

-- the sides are cut in front of the one that takes in the others, which is then taken out of its place
pub around : {sides whole front rest after : List (List Seg)} {first side : List Seg} → whole ≡ sides
    → whole ≡ front ++ rest → rest ≡ first ∷ after → side ≡ first → Around sides front side after
around {front = front} {after = after} same cut begins taken = record {
  split = ap (λ (s : List Seg). front ++ s ∷ after) taken ∙ ap (λ (l : List (List Seg)). front ++ l) (sym begins) ∙ sym cut ∙ same;
}

pub none_left : (sides front rest : List (List Seg)) → sides ≡ front ++ rest
    → length front ≤ length sides - 1 → length rest ≡ 0 → sides ≡ []
none_left [] front rest e within none = refl
none_left (side ∷ sides) front rest e within none = absurd (omega (arith, ap (length {A = List Seg}) e, length-append front rest))

module _ (sides front : List (List Seg)) (side : List Seg) (after : List (List Seg)) (a : Around sides front side after) where
  pub around_ropes : (lists : List (List ℕ)) → AllHaveRopes lists sides
      → AllHaveRopes lists front × HaveRopes lists side × AllHaveRopes lists after
  around_ropes lists h =
      let r = rw (sym a.split) at h in
      let l = ropes_last lists front (side ∷ after) r in
      (ropes_front lists front (side ∷ after) r, l.0, l.1)

  pub around_net : net_sum_all front + net_sum (profile side) + net_sum_all after ≡ net_sum_all sides
  around_net = omega (arith, ap net_sum_all a.split, net_append front (side ∷ after), net_cons side after)

  pub around_merged : (lists : List (List ℕ))
      → insert_runs (insert_runs (merge_runs (all_runs_of lists front)) (runs_of lists side)) (merge_runs (all_runs_of lists after))
      ≡ merge_runs (all_runs_of lists sides)
  around_merged lists =
      put_assoc (merge_runs (all_runs_of lists front)) (runs_of lists side) (merge_runs (all_runs_of lists after))
      ∙ sym (merged_append (all_runs_of lists front) (runs_of lists side ∷ all_runs_of lists after))
      ∙ ap merge_runs (sym (each_append lists front (side ∷ after)))
      ∙ ap (λ (l : List (List Seg)). merge_runs (all_runs_of lists l)) a.split

all_rising : (sides : List (List Seg)) → AllSides sides → AllRising (profiles sides)
all_rising [] h = tt
all_rising (side ∷ sides) h = (h.0.2, all_rising sides h.1)

-- what the merged side is, from its runs
module _ (laws : RunLaws) (old new : List (List ℕ)) (sides : List (List Seg)) (side : List Seg)
    (all : AllSides sides) (is : runs_of new side ≡ merge_runs (all_runs_of old sides)) where
  pub merged_profile : profile side ≡ merge_segments (profiles sides)
  merged_profile = sym (laws.profile new side) ∙ ap run_profile is
      ∙ profile_merge laws (all_runs_of old sides) ∙ ap merge_segments (profiles_runs laws old sides)

  pub merged_net : NetOfInserts → net_sum (profile side) ≡ net_sum_all sides
  merged_net net = ap net_sum merged_profile ∙ net_merge net sides

  pub merged_interleaved : IsInterleaving (all_tasks_of (all_runs_of old sides)) (tasks_of (runs_of new side))
  merged_interleaved = rw is (interleaved laws (all_runs_of old sides) (rw (profiles_runs laws old sides) (all_rising sides all)))

  pub merged_lowest : NetOfInserts → LowestOfMerge → (limit level : ℕ) → net_sum_all sides ≤ level
      → AreStuckAt limit level (profiles sides) (lowest limit level (profile side))
  merged_lowest net low limit level room =
      rw merged_profile (low limit level (profiles sides) (all_rising sides all) (omega (arith, net_merge net sides)))

  pub merged_top : NetOfInserts → TopOfMerge → (level : ℕ) → net_sum_all sides ≤ level
      → IsLeastTogether level (profiles sides) (top level (profile side))
  merged_top net most level room =
      rw merged_profile (most level (profiles sides) (all_rising sides all) (omega (arith, net_merge net sides)))
