-- A task that is taken as the last, and the mark that is put back.
use Rattle.std.proofs.Common.{◌≡◌, ℕ, ◌+◌, ◌<◌, Bool, true, eqb, List, length, get_or, take}
use Rattle.std.proofs.Common.{sym, ap, subst, ◌∙◌, arith, inl, inr}
use Rattle.std.proofs.lemmas.Bool.{or_cases, eqb-true}
use Rattle.std.proofs.lemmas.List.Folds.{list_any_more}
use Rattle.mp_system.specs.Memory.{stands_in}
use Rattle.shared_systems.specs.Shared.{SharedTaskSystem}
use Rattle.state_search.specs.States.{without, state_at, IsStepBack}
use Rattle.state_search.specs.Kept.{KeptStates, IsKept, IsBefore, Extends}
use Rattle.state_search.proofs.Keeping.{kept_on}

module _ (system : SharedTaskSystem) (bound : ℕ) (first states : KeptStates) (waiting later : List ℕ)
    (extends : Extends first.rows waiting states.rows later) (marks : List Bool) (place : ℕ) (inside : place < length first.rows)
    (marks_are : marks ≡ state_at first.rows place) (v : ℕ) (step : IsStepBack system bound marks v) where
  row : marks ≡ state_at states.rows place
  row = marks_are ∙ sym (extends.same place inside)

  -- the state before the task lies before the one that is kept
  pub followed : IsBefore system bound states.rows (length states.rows) (record { next = place; task = v }) (without marks v)
  followed = record {
    earlier = omega (arith, inside, extends.longer);
    step = subst (λ (m : List Bool). IsStepBack system bound m v) row step;
    row_is = ap (λ (m : List Bool). without m v) row;
  }

module _ (steps : List ℕ) (i : ℕ) (lt : i < length steps) (rows : List (List Bool)) (waiting : List ℕ) (more : List (List Bool)) (later : List ℕ)
    (extends : Extends rows waiting more later) (marks : List Bool)
    (before : (v : ℕ) → stands_in (take i steps) v ≡ true → IsKept rows (without marks v))
    (here : IsKept more (without marks (get_or steps i 0))) where
  pub all_kept : (v : ℕ) → stands_in (take (i + 1) steps) v ≡ true → IsKept more (without marks v)
  all_kept v e = elim (or_cases (stands_in (take i steps) v) (eqb (get_or steps i 0) v) (sym (list_any_more (λ u. eqb u v) steps i 0 lt) ∙ e)) [
    | inl old ↦ kept_on rows waiting more later (without marks v) extends (before v old)
    | inr last ↦ subst (λ (u : ℕ). IsKept more (without marks u)) (eqb-true (get_or steps i 0) v last) here
  ]
