-- The numbers of merged runs are those of the sides, merged.
use Rattle.std.proofs.Common.{◌≡◌, ℕ, List, [], ◌∷◌, refl, ap, ◌∙◌, true, arith}
use Rattle.std.proofs.lemmas.List.Sums.{sum_by-cons}
use Rattle.side_laws.specs.Segments.{net_sum}
use Rattle.side_laws.specs.Merging.{insert_segment, insert_segments, merge_segments}
use Rattle.side_laws.specs.Laws.{NetOfInserts}
use Rattle.hill_valley.specs.declared.side.Seg.{Seg}
use Rattle.hill_valley.specs.Side.{Run, run_numbers, run_profile, profile}
use Rattle.segment_merge.specs.Merging.{insert_runs, merge_runs, run_profiles, profiles, all_runs_of, net_sum_all}
use Rattle.hill_valley.specs.Laws.{RunLaws}

module _ (laws : RunLaws) where
  pub profile_inserts : (ss rs : List Run) → run_profile (insert_runs ss rs) ≡ insert_segments (run_profile ss) (run_profile rs)
  profile_inserts [] rs = refl
  profile_inserts (s ∷ ss) rs = laws.insert true s (insert_runs ss rs) ∙ ap (insert_segment (run_numbers s)) (profile_inserts ss rs)

  pub profile_merge : (sides : List (List Run)) → run_profile (merge_runs sides) ≡ merge_segments (run_profiles sides)
  profile_merge [] = refl
  profile_merge (side ∷ sides) = profile_inserts side (merge_runs sides) ∙ ap (insert_segments (run_profile side)) (profile_merge sides)

  pub profiles_runs : (lists : List (List ℕ)) (sides : List (List Seg)) → run_profiles (all_runs_of lists sides) ≡ profiles sides
  profiles_runs lists [] = refl
  profiles_runs lists (side ∷ sides) = rw (laws.profile lists side, profiles_runs lists sides) refl

-- the `net` values of the merged side
pub net_merge : NetOfInserts → (sides : List (List Seg)) → net_sum (merge_segments (profiles sides)) ≡ net_sum_all sides
net_merge net [] = refl
net_merge net (side ∷ sides) = omega (
  arith,
  net (profile side) (merge_segments (profiles sides)),
  net_merge net sides,
  sum_by-cons (λ (s : List Seg). net_sum (profile s)) side sides,
)
