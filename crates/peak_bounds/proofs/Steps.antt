-- No traversal has a peak below a bound by moments within moments.
use Rattle.std.proofs.Common.{◌≡◌, ℕ, zero, suc, ◌+◌, ◌<◌, ◌≤◌, Bool, true, false, ◌&&◌, eqb, eq-eqb, leb, inl, inr, List, [], ◌∷◌, length, get_or, refl, sym, ap, subst, arith}
use Rattle.std.specs.List.{list_any}
use Rattle.std.proofs.Math.Bool.{and-false}
use Rattle.std.proofs.Math.Path.{fun_ext}
use Rattle.std.proofs.lemmas.Int.{ints}
use Rattle.std.proofs.lemmas.Bool.{eqb-true, and_parts, ne_eqb, or_cases}
use Rattle.std.proofs.lemmas.List.Folds.{list_any_at}
use Rattle.shared_systems.specs.Shared.{SharedTaskSystem}
use Rattle.shared_systems.specs.SharedMemory.{shared_peak_of}
use Rattle.shared_systems.specs.SharedTraversal.{IsSharedTraversal}
use Rattle.peak_bounds.specs.declared.step.Event.{Event}
use Rattle.peak_bounds.specs.declared.step.Event.TheVariants.{First, Last}
use Rattle.peak_bounds.specs.Moments.{Moment, is_done, is_waiting}
use Rattle.peak_bounds.specs.Steps.{Starts, early_from, late_from, may_have, Step, no_step, moment_at, same_event, is_beside, set_of, AreSteps}
use Rattle.peak_bounds.proofs.AtMoment.{marks_hold, moment-le}
use Rattle.peak_bounds.proofs.Within.{Carries, starts_from, carries_start, carries_within}

same_event-true : (a b : Event) → same_event a b ≡ true → a ≡ b
same_event-true First First e = refl
same_event-true First Last e = absurd cc
same_event-true Last First e = absurd cc
same_event-true Last Last e = refl

same_event-refl : (a : Event) → same_event a a ≡ true
same_event-refl First = refl
same_event-refl Last = refl

-- the place of a step that passes a test
place_of : (test : Step → Bool) (steps : List Step) → list_any test steps ≡ true → (k : ℕ) × (k < length steps) × (test (get_or steps k no_step) ≡ true)
place_of test [] e = absurd cc
place_of test (s ∷ steps) e = elim (or_cases (test s) (list_any test steps) e) [
  | inl here ↦ (0, omega arith, here)
  | inr later ↦ (let found = place_of test steps later in (suc found.0, omega (arith, found.1), found.2))
]

-- the step at place k is beside those within the same moment
record Beside (steps : List Step) (p : ℕ) (event : Event) (t : ℕ) : Type 0 where
  place : ℕ
  lt : place < length steps
  within : (get_or steps place no_step).within ≡ p
  event_is : (get_or steps place no_step).event ≡ event
  task : (get_or steps place no_step).moment.task ≡ t

beside : (steps : List Step) (p : ℕ) (event : Event) (t : ℕ) → set_of steps p event t ≡ true → Beside steps p event t
beside steps p event t e =
    let found = place_of (is_beside p event t) steps e in
    let step = get_or steps found.0 no_step in
    let parts = and_parts (eqb step.within p) (same_event step.event event && eqb step.moment.task t) found.2 in
    let more = and_parts (same_event step.event event) (eqb step.moment.task t) parts.1 in
    record { place = found.0; lt = found.1; within = eqb-true _ _ parts.0; event_is = same_event-true _ _ more.0; task = eqb-true _ _ more.1 }

in_set : (steps : List Step) (k : ℕ) → k < length steps → (let step = get_or steps k no_step in set_of steps step.within step.event step.moment.task ≡ true)
in_set steps k lt =
    let step = get_or steps k no_step in
    list_any_at (is_beside step.within step.event step.moment.task) steps k no_step lt
    (rw (eq-eqb step.within step.within refl, same_event-refl step.event, eq-eqb step.moment.task step.moment.task refl) refl)

none_of : (p : ℕ) (steps : List Step) → p ≡ 0 → (is_done (moment_at steps p) ≡ (λ (v : ℕ). false)) × (is_waiting (moment_at steps p) ≡ (λ (v : ℕ). false))
none_of p steps e = rw e (fun_ext (λ v. and-false (leb 1 v)), fun_ext (λ v. and-false (leb 1 v)))

module _ (system : SharedTaskSystem) (order : List ℕ) (traversal : IsSharedTraversal system order)
    (steps : List Step) (bound : ℕ) (are : AreSteps system steps bound) where
  -- the task of the step starts, with what is known of the moment that it is within
  StepStarts : Step → Type 0
  StepStarts step = Starts order (early_from step.event (is_done (moment_at steps step.within)) (set_of steps step.within step.event) step.moment.task)
      (late_from step.event (is_waiting (moment_at steps step.within)) (set_of steps step.within step.event) step.moment.task) step.moment.task

  -- where what is known carries over, some step within the moment starts
  some_starts : (k : ℕ) → k < length steps → (let step = get_or steps k no_step in
      Carries system order traversal step.event (is_done (moment_at steps step.within)) (is_waiting (moment_at steps step.within)) (set_of steps step.within step.event))
      → (j : ℕ) × (j < length steps) × ((get_or steps j no_step).within ≡ (get_or steps k no_step).within) × StepStarts (get_or steps j no_step)
  unfolding StepStarts
  some_starts k lt carries =
      let step = get_or steps k no_step in
      let done = is_done (moment_at steps step.within) in
      let waiting = is_waiting (moment_at steps step.within) in
      let set = set_of steps step.within step.event in
      let found = starts_from system order traversal step.event done waiting set carries step.moment.task (are.each k lt).task (in_set steps k lt) in
      let by = beside steps step.within step.event found.0 found.1 in
      let other = get_or steps by.place no_step in
      let one = subst (λ (t : ℕ). Starts order (early_from step.event done set t) (late_from step.event waiting set t) t) (sym by.task) found.2 in
      let two = subst (λ (e : Event). Starts order (early_from e done (set_of steps step.within e) other.moment.task) (late_from e waiting (set_of steps step.within e) other.moment.task) other.moment.task) (sym by.event_is) one in
      let three = subst (λ (p : ℕ). Starts order (early_from other.event (is_done (moment_at steps p)) (set_of steps p other.event) other.moment.task) (late_from other.event (is_waiting (moment_at steps p)) (set_of steps p other.event) other.moment.task) other.moment.task) (sym by.within) two in
      (by.place, by.lt, by.within, three)

  from_step : (fuel k : ℕ) → length steps ≤ k + fuel → k < length steps → StepStarts (get_or steps k no_step) → bound ≤ shared_peak_of system order
  unfolding StepStarts
  from_step zero k enough lt starts = absurd (omega arith)
  from_step (suc fuel) k enough lt starts =
      let step = get_or steps k no_step in
      let is = are.each k lt in
      elim is.bounded [
        | inl level ↦ (let low = moment-le system order traversal _ _ step.moment starts is.holds in omega (arith, ints, low, level))
        | inr child ↦ (
            let known = marks_hold system order traversal _ _ step.moment starts is.holds in
            let j = child.0 in
            let inner = get_or steps j no_step in
            let here : moment_at steps inner.within ≡ step.moment = rw (child.2, ne_eqb (k + 1) 0 (λ e. omega arith)) (ap (λ (i : ℕ). (get_or steps i no_step).moment) (omega arith)) in
            let carries = subst (λ (m : Moment). Carries system order traversal inner.event (is_done m) (is_waiting m) (set_of steps inner.within inner.event)) (sym here)
            (carries_within system order traversal inner.event step.moment (set_of steps inner.within inner.event) known (allowed j child.1 k child.2 here)) in
            let found = some_starts j child.1 carries in
            from_step fuel found.0 (omega (arith, (are.each found.0 found.1).earlier, found.2, child.2)) found.1 found.3)
      ]
    where
      allowed : (j : ℕ) → j < length steps → (k : ℕ) → (get_or steps j no_step).within ≡ k + 1 → moment_at steps (get_or steps j no_step).within ≡ (get_or steps k no_step).moment
          → (v : ℕ) → set_of steps (get_or steps j no_step).within (get_or steps j no_step).event v ≡ true → may_have (get_or steps j no_step).event (get_or steps k no_step).moment v ≡ true
      allowed j lt_j k within here v e =
          let by = beside steps (get_or steps j no_step).within (get_or steps j no_step).event v e in
          elim (are.each by.place by.lt).allowed [
            | inl none ↦ absurd (omega (arith, none, by.within, within))
            | inr may ↦ (
                let one = subst (λ (p : ℕ). may_have (get_or steps by.place no_step).event (moment_at steps p) (get_or steps by.place no_step).moment.task ≡ true) by.within may in
                let two = subst (λ (m : Moment). may_have (get_or steps by.place no_step).event m (get_or steps by.place no_step).moment.task ≡ true) here one in
                let three = subst (λ (ev : Event). may_have ev (get_or steps k no_step).moment (get_or steps by.place no_step).moment.task ≡ true) by.event_is two in
                subst (λ (t : ℕ). may_have (get_or steps j no_step).event (get_or steps k no_step).moment t ≡ true) by.task three)
          ]

  pub steps_bound : bound ≤ shared_peak_of system order
  steps_bound =
      let first = get_or steps 0 no_step in
      let outermost : first.within ≡ 0 = omega (arith, (are.each 0 are.any).earlier) in
      let none = none_of first.within steps outermost in
      let carries = subst (λ (done : ℕ → Bool). Carries system order traversal first.event done (is_waiting (moment_at steps first.within)) (set_of steps first.within first.event)) (sym none.0)
      (subst (λ (waiting : ℕ → Bool). Carries system order traversal first.event (λ _. false) waiting (set_of steps first.within first.event)) (sym none.1)
      (carries_start system order traversal first.event (set_of steps first.within first.event))) in
      let found = some_starts 0 are.any carries in
      from_step (length steps) found.0 (omega arith) found.1 found.3
