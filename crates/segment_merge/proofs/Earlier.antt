-- What holds while earlier sides are moved into one.
use Rattle.std.proofs.Common.{◌≡◌, ℕ, ◌+◌, ◌≤◌, List, [], ◌∷◌, ◌++◌, ap, sym, ◌∙◌, arith, true}
use Rattle.limits.specs.Limits.{most_total}
use Rattle.side_laws.specs.Segments.{net_sum, IsRising}
use Rattle.hill_valley.specs.declared.side.Seg.{Seg}
use Rattle.hill_valley.specs.Ropes.{Extends}
use Rattle.hill_valley.specs.Side.{profile, HaveRopes, Run, runs_of, run_profile}
use Rattle.segment_merge.specs.Merging.{insert_runs, merge_runs, move_runs, all_runs_of, AllHaveRopes, net_sum_all}
use Rattle.hill_valley.specs.Laws.{RunLaws}
use Rattle.segment_merge.proofs.Order.{moved_before, merged_append, merged_one, put_assoc}
use Rattle.segment_merge.proofs.Kept.{each_kept, all_kept, each_append, ropes_front, net_append}

-- `rest` is left of sides0
pub record Taking (ropes0 ropes : List (List ℕ)) (sides0 : List (List Seg))
    (into0 : List Seg) (rest : List (List Seg)) (into : List Seg) : Type 0 where
  pub told : insert_runs (merge_runs (all_runs_of ropes rest)) (runs_of ropes into)
      ≡ insert_runs (merge_runs (all_runs_of ropes0 sides0)) (runs_of ropes0 into0)
  pub rest_ropes : AllHaveRopes ropes rest
  pub into_ropes : HaveRopes ropes into
  pub kept : Extends ropes0 ropes
  pub net : net_sum_all rest + net_sum (profile into) ≡ net_sum_all sides0 + net_sum (profile into0)
  pub within : net_sum_all rest + net_sum (profile into) ≤ most_total

module _ (laws : RunLaws) where
  module _ (ropes0 ropes : List (List ℕ)) (sides0 : List (List Seg))
      (into0 : List Seg) (rest front : List (List Seg)) (side into : List Seg)
      (t : Taking ropes0 ropes sides0 into0 rest into) (last : rest ≡ front ++ side ∷ []) where
    pub taking_on : (ropes' : List (List ℕ)) (into' : List Seg) → Extends ropes ropes' → HaveRopes ropes' into'
        → IsRising (profile side) → runs_of ropes' into' ≡ move_runs true (runs_of ropes side) (runs_of ropes into)
        → net_sum (profile into') ≡ net_sum (profile side) + net_sum (profile into) → Taking ropes0 ropes' sides0 into0 front into'
    taking_on ropes' into' kept ropes_in rising put net =
        let r = rw last at t.rest_ropes in
        let n = rw last at t.net in
        let w = rw last at t.within in
        let f = ropes_front ropes front (side ∷ []) r in
        let hs : IsRising (run_profile (runs_of ropes side)) = rw (laws.profile ropes side) rising in
        let one : runs_of ropes' into' ≡ insert_runs (runs_of ropes side) (runs_of ropes into) =
        put ∙ moved_before (runs_of ropes side) (runs_of ropes into) hs in
        let split : merge_runs (all_runs_of ropes rest) ≡ insert_runs (merge_runs (all_runs_of ropes front)) (runs_of ropes side) =
        ap (λ (l : List (List Seg)). merge_runs (all_runs_of ropes l)) last
        ∙ ap merge_runs (each_append ropes front (side ∷ []))
        ∙ merged_append (all_runs_of ropes front) (runs_of ropes side ∷ [])
        ∙ ap (insert_runs (merge_runs (all_runs_of ropes front))) (merged_one (runs_of ropes side) hs) in
        record {
          told =
              ap (λ (l : List (List Run)). insert_runs (merge_runs l) (runs_of ropes' into')) (each_kept laws ropes ropes' front f kept)
              ∙ ap (insert_runs (merge_runs (all_runs_of ropes front))) one
              ∙ sym (put_assoc (merge_runs (all_runs_of ropes front)) (runs_of ropes side) (runs_of ropes into))
              ∙ ap (λ (l : List Run). insert_runs l (runs_of ropes into)) (sym split)
              ∙ t.told;
          rest_ropes = all_kept laws ropes ropes' front f kept;
          into_ropes = ropes_in;
          kept = laws.on ropes0 ropes ropes' t.kept kept;
          net = omega (arith, net_append front (side ∷ []), n, net);
          within = omega (arith, net_append front (side ∷ []), w, net);
        }
