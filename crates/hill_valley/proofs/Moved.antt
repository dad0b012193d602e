-- What holds while segments are moved from one side into another, one after another.
use Rattle.std.proofs.Common.{◌≡◌, ℕ, ◌+◌, ◌≤◌, List, ◌∷◌, refl, ap, sym, ◌∙◌, arith, Bool}
use Rattle.limits.specs.Limits.{most_total}
use Rattle.side_laws.specs.Segments.{net_sum}
use Rattle.hill_valley.specs.declared.side.Seg.{Seg}
use Rattle.hill_valley.specs.Ropes.{IsRope, Extends}
use Rattle.hill_valley.specs.Side.{profile, HaveRopes, Run, run_of, runs_of, insert_run, move_runs}
use Rattle.hill_valley.proofs.Kept.{runs_kept, ropes_kept, extends_on, extends_self}

-- `from` is left of from0, and `into` has the others
pub record Moving (before : Bool) (ropes0 ropes : List (List ℕ)) (from0 into0 from into : List Seg) : Type 0 where
  pub told : move_runs before (runs_of ropes from) (runs_of ropes into) ≡ move_runs before (runs_of ropes0 from0) (runs_of ropes0 into0)
  pub from_ropes : HaveRopes ropes from
  pub into_ropes : HaveRopes ropes into
  pub kept : Extends ropes0 ropes
  pub within : net_sum (profile from) + net_sum (profile into) ≤ most_total

module _ (before : Bool) where
  pub moving_starts : (ropes : List (List ℕ)) (from into : List Seg) → HaveRopes ropes from → HaveRopes ropes into
      → net_sum (profile from) + net_sum (profile into) ≤ most_total → Moving before ropes ropes from into from into
  moving_starts ropes from into f i n = record { told = refl; from_ropes = f; into_ropes = i; kept = extends_self ropes; within = n }

  module _ (ropes0 ropes : List (List ℕ)) (from0 into0 from into rest : List Seg) (s : Seg)
      (m : Moving before ropes0 ropes from0 into0 from into) (first : from ≡ s ∷ rest) where
    pub moving_first : IsRope ropes s.tasks × (net_sum (profile into) + s.net ≤ most_total)
    moving_first = let r = rw first at m.from_ropes in let n = rw first at m.within in (r.0, omega arith)

    pub moving_on : (ropes' : List (List ℕ)) (into' : List Seg) → Extends ropes ropes'
        → HaveRopes ropes' into' → runs_of ropes' into' ≡ insert_run before (run_of ropes s) (runs_of ropes into)
        → net_sum (profile into') ≡ net_sum (profile into) + s.net → Moving before ropes0 ropes' from0 into0 rest into'
    moving_on ropes' into' kept ropes_in put net =
        let r = rw first at m.from_ropes in
        let w = rw first at m.within in
        record {
          told = ap (λ (l : List Run). move_runs before l (runs_of ropes' into')) (runs_kept ropes ropes' rest r.1 kept)
              ∙ ap (move_runs before (runs_of ropes rest)) put
              ∙ ap (λ (l : List Seg). move_runs before (runs_of ropes l) (runs_of ropes into)) (sym first) ∙ m.told;
          from_ropes = ropes_kept ropes ropes' rest r.1 kept;
          into_ropes = ropes_in;
          kept = extends_on ropes0 ropes ropes' m.kept kept;
          within = omega (arith, w, net);
        }
