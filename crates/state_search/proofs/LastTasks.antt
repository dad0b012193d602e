-- Which tasks are taken as the last: their list, one task further.
use Rattle.std.proofs.Common.{◌≡◌, ℕ, ◌+◌, ◌<◌, ◌≤◌, Bool, true, false, ◌||◌, eqb, eq-eqb, leb, List, [], ◌∷◌, ◌++◌, ◌↔◌}
use Rattle.std.proofs.Common.{length, get_or, Option, Some, None, refl, sym, ap, subst, ◌∙◌, arith, inl, inr}
use Rattle.std.specs.Prelude.{MatchOption}
use Rattle.std.proofs.lemmas.Bool.{cases_lt, or_cases, or_left, eqb-true, and_parts, leb-true, le-leb, false_from_ne_true}
use Rattle.std.proofs.lemmas.List.Folds.{list_any_at}
use Rattle.mp_system.specs.Memory.{stands_in}
use Rattle.mp_system.specs.Replay.{is_marked}
use Rattle.shared_systems.specs.Shared.{SharedTaskSystem}
use Rattle.shared_systems.proofs.Steps.{stands_push}
use Rattle.state_search.specs.States.{memory_in, memory_before, can_be_last, may_wait, IsFirstToWait, IsStepBack, waits, any}
use Rattle.state_search.proofs.TaskMarks.{mark_inside}
use Rattle.state_search.proofs.Reaches.{none_waits}

or_right : (b : Bool) → (b || true) ≡ true
or_right true = refl
or_right false = refl

module _ (P : ℕ → Type 0) (steps : List ℕ) (i : ℕ) (are : (v : ℕ) → (stands_in steps v ≡ true) ↔ (P v × (v < i + 1))) where
  pub with_step : (more : List ℕ) → more ≡ steps ++ (i + 1) ∷ [] → P (i + 1)
      → (v : ℕ) → (stands_in more v ≡ true) ↔ (P v × (v < i + 1 + 1))
  with_step more is here v =
      let pushed = ap (λ (l : List ℕ). stands_in l v) is ∙ stands_push steps (i + 1) v in (
        (λ e. elim (or_cases (stands_in steps v) (eqb (i + 1) v) (sym pushed ∙ e)) [
          | inl old ↦ (let h = (are v).0 old in (h.0, omega (arith, h.1)))
          | inr last ↦ (let same = eqb-true (i + 1) v last in (subst P same here, omega (arith, same)))
        ]),
        (λ h. elim (cases_lt v (i + 1)) [
          | inl earlier ↦ pushed ∙ or_left (stands_in steps v) (eqb (i + 1) v) ((are v).1 (h.0, earlier))
          | inr past ↦ (
              let same : i + 1 ≡ v = omega (arith, past, h.1) in
              pushed ∙ ap (λ (b : Bool). stands_in steps v || b) (eq-eqb (i + 1) v same) ∙ or_right (stands_in steps v))
        ]),
      )

  pub without_step : (P (i + 1) → ⊥) → (v : ℕ) → (stands_in steps v ≡ true) ↔ (P v × (v < i + 1 + 1))
  without_step none v = (
    (λ e. (let h = (are v).0 e in (h.0, omega (arith, h.1)))),
    (λ h. elim (cases_lt v (i + 1)) [
      | inl earlier ↦ (are v).1 (h.0, earlier)
      | inr past ↦ absurd (let same : v ≡ i + 1 = omega (arith, past, h.1) in none (subst P same h.0))
    ]),
  )

-- what stands at a place of a list stands in it
pub stands_at : (xs : List ℕ) (i : ℕ) → i < length xs → stands_in xs (get_or xs i 0) ≡ true
stands_at xs i lt = list_any_at (λ u. eqb u (get_or xs i 0)) xs i 0 lt (eq-eqb (get_or xs i 0) (get_or xs i 0) refl)

-- ---- what is told of each task

module _ (system : SharedTaskSystem) (bound : ℕ) (marks : List Bool) where
  waits_can : (v : ℕ) → may_wait system bound marks v ≡ true → can_be_last system bound marks v ≡ true
  waits_can v e = (and_parts (can_be_last system bound marks v) (leb (memory_before system marks v) (memory_in system marks)) e).0

  -- what is taken as the last can be the last
  pub step_can : (v : ℕ) → IsStepBack system bound marks v → can_be_last system bound marks v ≡ true
  step_can v (waits first) = waits_can v first.waits
  step_can v (any none can) = can

  pub may_wait_here : (v before : ℕ) → can_be_last system bound marks v ≡ true → before ≡ memory_before system marks v
      → before ≤ memory_in system marks → may_wait system bound marks v ≡ true
  may_wait_here v before can is low = rw can (le-leb (memory_before system marks v) (memory_in system marks) (omega (arith, is, low)))

  pub may_not_wait : (v before : ℕ) → before ≡ memory_before system marks v → memory_in system marks < before
      → may_wait system bound marks v ≡ false
  may_not_wait v before is high =
      false_from_ne_true (may_wait system bound marks v) (λ e.
      let parts = and_parts (can_be_last system bound marks v) (leb (memory_before system marks v) (memory_in system marks)) e in
      omega (arith, is, high, leb-true (memory_before system marks v) (memory_in system marks) parts.1))

  pub cannot_wait : (v : ℕ) → can_be_last system bound marks v ≡ false → may_wait system bound marks v ≡ false
  cannot_wait v e =
      false_from_ne_true (may_wait system bound marks v) (λ waits. (let f : true ≡ false = sym (waits_can v waits) ∙ e in cc))

  pub none_more : (n : ℕ) → ((w : ℕ) → w < n → may_wait system bound marks w ≡ false) → may_wait system bound marks n ≡ false
      → (w : ℕ) → w < n + 1 → may_wait system bound marks w ≡ false
  none_more n none here w lt = elim (cases_lt w n) [
    | inl below ↦ none w below
    | inr past ↦ (let same : w ≡ n = omega (arith, past, lt) in ap (may_wait system bound marks) same ∙ here)
  ]

  -- the first that may wait is the only one that is taken
  pub only_first : (t : ℕ) → may_wait system bound marks t ≡ true → ((w : ℕ) → w < t → may_wait system bound marks w ≡ false)
      → (steps : List ℕ) → steps ≡ t ∷ [] → (v : ℕ) → (stands_in steps v ≡ true) ↔ IsStepBack system bound marks v
  only_first t here lowest steps is v = (
    (λ e. elim (or_cases (eqb t v) false (sym (ap (λ (l : List ℕ). stands_in l v) is) ∙ e)) [
      | inl there ↦ subst (IsStepBack system bound marks) (eqb-true t v there) (waits (record { waits = here; lowest = lowest }))
      | inr none ↦ absurd (let f : false ≡ true = none in cc)
    ]),
    (λ step. ap (λ (l : List ℕ). stands_in l v) is ∙ ap (λ (b : Bool). b || false) (eq-eqb t v (same v step))),
  )
    where
      contrary : (w : ℕ) → may_wait system bound marks w ≡ true → may_wait system bound marks w ≡ false → ⊥
      contrary w e f = let g : true ≡ false = sym e ∙ f in cc

      same_first : (w : ℕ) → IsFirstToWait system bound marks w → t ≡ w
      same_first w first = elim (cases_lt w t) [
        | inl below ↦ absurd (contrary w first.waits (lowest w below))
        | inr past ↦ elim (cases_lt t w) [
          | inl below ↦ absurd (contrary t here (first.lowest t below))
          | inr not_below ↦ omega (arith, past, not_below)
        ]
      ]

      same : (w : ℕ) → IsStepBack system bound marks w → t ≡ w
      same w (waits first) = same_first w first
      same w (any none can) = absurd (contrary t here (none t))

  -- where none may wait, each that can be the last is taken
  pub all_last : (n : ℕ) → length marks ≡ n → ((w : ℕ) → w < n + 1 → may_wait system bound marks w ≡ false) → (steps : List ℕ)
      → ((v : ℕ) → (stands_in steps v ≡ true) ↔ ((can_be_last system bound marks v ≡ true) × (v < n + 1)))
      → (v : ℕ) → (stands_in steps v ≡ true) ↔ IsStepBack system bound marks v
  all_last n len none steps are v = (
    (λ e. any (none_waits system bound marks (λ w lt. none w (omega (arith, lt, len)))) ((are v).0 e).0),
    (λ step.
        let can = step_can v step in
        let done = (and_parts (is_marked marks v) _ can).0 in
        (are v).1 (can, omega (arith, len, (mark_inside marks v done).1))),
  )

-- what is told where there is none
pub told_none : (P : Type 0) (Q : ℕ → Type 0) (o : Option ℕ) → MatchOption o P Q → ((x : ℕ) → o ≡ Some x → ⊥) → P
told_none P Q None told none = told
told_none P Q (Some x) told none = absurd (none x refl)
