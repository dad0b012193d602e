-- What holds while later sides are moved into one.
use Rattle.std.proofs.Common.{◌≡◌, ℕ, ◌+◌, ◌<◌, ◌≤◌, List, [], ◌∷◌, ap, sym, ◌∙◌, arith, false, length, get_or, drop, set}
use Rattle.std.proofs.lemmas.Grind.{common_steps}
use Rattle.std.proofs.lemmas.List.{drop_more, drop-set-lt, nil_from_length}
use Rattle.limits.specs.Limits.{most_total}
use Rattle.side_laws.specs.Segments.{net_sum, IsRising}
use Rattle.hill_valley.specs.declared.side.Seg.{Seg}
use Rattle.hill_valley.specs.Ropes.{Extends}
use Rattle.hill_valley.specs.Side.{profile, HaveRopes, Run, runs_of, run_profile}
use Rattle.segment_merge.specs.Merging.{insert_runs, merge_runs, move_runs, all_runs_of, AllHaveRopes, net_sum_all}
use Rattle.hill_valley.specs.Laws.{RunLaws}
use Rattle.segment_merge.proofs.Order.{moved_behind, put_assoc, put_nil}
use Rattle.segment_merge.proofs.Kept.{each_kept, all_kept, net_cons}

-- what a loop over places has left, where each side that was taken left another value in its place
pub first_of_rest : (sides : List (List Seg)) (i : ℕ) (left side other : List Seg) → i < length sides
    → side ≡ get_or sides i other → drop i sides ≡ side ∷ drop (i + 1) (set sides i left)
first_of_rest sides i left side other lt here =
    drop_more sides i other lt ∙ ap (λ (s : List Seg). s ∷ drop (i + 1) sides) (sym here)
    ∙ ap (λ (l : List (List Seg)). side ∷ l) (sym (drop-set-lt (i + 1) sides i left (omega arith)))

pub none_of_rest : (sides : List (List Seg)) (i : ℕ) → length sides ≤ i → drop i sides ≡ []
none_of_rest sides i h = nil_from_length (drop i sides) (grind (arith, common_steps))

-- `rest` is left of sides0
pub record Following (ropes0 ropes : List (List ℕ)) (sides0 : List (List Seg))
    (into0 : List Seg) (rest : List (List Seg)) (into : List Seg) : Type 0 where
  pub told : insert_runs (runs_of ropes into) (merge_runs (all_runs_of ropes rest))
      ≡ insert_runs (runs_of ropes0 into0) (merge_runs (all_runs_of ropes0 sides0))
  pub rest_ropes : AllHaveRopes ropes rest
  pub into_ropes : HaveRopes ropes into
  pub kept : Extends ropes0 ropes
  pub within : net_sum_all rest + net_sum (profile into) ≤ most_total

module _ (laws : RunLaws) where
  module _ (ropes0 ropes : List (List ℕ)) (sides0 : List (List Seg)) (into0 : List Seg)
      (rest : List (List Seg)) (side into : List Seg) (back : List (List Seg))
      (t : Following ropes0 ropes sides0 into0 rest into) (first : rest ≡ side ∷ back) where
    pub following_on : (ropes' : List (List ℕ)) (into' : List Seg) → Extends ropes ropes'
        → HaveRopes ropes' into' → IsRising (profile side) → IsRising (profile into)
        → runs_of ropes' into' ≡ move_runs false (runs_of ropes side) (runs_of ropes into)
        → net_sum (profile into') ≡ net_sum (profile side) + net_sum (profile into) → Following ropes0 ropes' sides0 into0 back into'
    following_on ropes' into' kept ropes_in rising rising' put net =
        let r = rw first at t.rest_ropes in
        let w = rw first at t.within in
        let hs : IsRising (run_profile (runs_of ropes side)) = rw (laws.profile ropes side) rising in
        let hi : IsRising (run_profile (runs_of ropes into)) = rw (laws.profile ropes into) rising' in
        let one : runs_of ropes' into' ≡ insert_runs (runs_of ropes into) (runs_of ropes side) =
        put ∙ moved_behind laws (runs_of ropes side) (runs_of ropes into) hs hi in
        let later = merge_runs (all_runs_of ropes back) in
        let split : merge_runs (all_runs_of ropes rest) ≡ insert_runs (runs_of ropes side) later =
        ap (λ (l : List (List Seg)). merge_runs (all_runs_of ropes l)) first in
        record {
          told =
              ap (λ (l : List (List Run)). insert_runs (runs_of ropes' into') (merge_runs l)) (each_kept laws ropes ropes' back r.1 kept)
              ∙ ap (λ (l : List Run). insert_runs l later) one
              ∙ put_assoc (runs_of ropes into) (runs_of ropes side) later
              ∙ ap (insert_runs (runs_of ropes into)) (sym split)
              ∙ t.told;
          rest_ropes = all_kept laws ropes ropes' back r.1 kept;
          into_ropes = ropes_in;
          kept = laws.on ropes0 ropes ropes' t.kept kept;
          within = omega (arith, net_cons side back, w, net);
        }

  -- when none is left
  pub following_ends :
      (ropes0 ropes : List (List ℕ)) (sides0 : List (List Seg)) (into0 : List Seg) (rest : List (List Seg)) (into : List Seg)
      → Following ropes0 ropes sides0 into0 rest into → rest ≡ [] → IsRising (profile into)
      → runs_of ropes into ≡ insert_runs (runs_of ropes0 into0) (merge_runs (all_runs_of ropes0 sides0))
  following_ends ropes0 ropes sides0 into0 rest into t none r =
      sym (put_nil (runs_of ropes into) (rw (laws.profile ropes into) r))
      ∙ ap (λ (l : List (List Seg)). insert_runs (runs_of ropes into) (merge_runs (all_runs_of ropes l))) (sym none) ∙ t.told
