-- The moments of a run of a shared system that keeps to fences: what runs or is done is a task, has what it reads, and waits for nothing.
use Rattle.std.proofs.Common.{◌≡◌, ℕ, Bool, true, false, not, ◌||◌, eqb, leb, List, [], ◌∷◌, ◌++◌, length, refl, sym, subst, inl, inr, ⊎_elim}
use Rattle.std.proofs.lemmas.Bool.{and_parts, cases_Bool, or_cases, or_left, eqb-true, not-true}
use Rattle.shared_systems.specs.Shared.{SharedTaskSystem, HasTask}
use Rattle.shared_systems.specs.SharedMemory.{has_inputs}
use Rattle.shared_systems.proofs.States.{still_done, still_has_inputs}
use Rattle.fences.specs.declared.fenced.Fence.{Fence}
use Rattle.fences.specs.Moments.{Moment}
use Rattle.fences.specs.Runs.Change.{starts, ends}
use Rattle.fences.specs.Runs.{Change, first_moment, moment_after, moment_after_all}
use Rattle.fences.specs.SharedRuns.{readers_before_join, is_over, are_passed, CanStartFenced, CanComeFenced, IsFencedRunFrom}

-- a task that could start
pub record Started (system : SharedTaskSystem) (fences : List Fence) (done : ℕ → Bool) (v : ℕ) : Type 0 where
  pub task : HasTask system v
  pub ready : has_inputs system done v ≡ true
  pub passed : are_passed system fences done v ≡ true

pub record IsFencedMoment (system : SharedTaskSystem) (fences : List Fence) (moment : Moment) : Type 0 where
  pub once : (v : ℕ) → moment.running v ≡ true → moment.done v ≡ false
  pub running : (v : ℕ) → moment.running v ≡ true → Started system fences moment.done v
  pub done : (v : ℕ) → moment.done v ≡ true → Started system fences moment.done v

-- ---- more tasks are done

module _ (system : SharedTaskSystem) (done later : ℕ → Bool) (more : (u : ℕ) → done u ≡ true → later u ≡ true) where
  still_over : (u : ℕ) → is_over system done u ≡ true → is_over system later u ≡ true
  still_over u e = elim (cases_Bool (leb u (length system.tasks))) [
    | inl task ↦ rw task (more u (rw task at e))
    | inr join ↦ rw join (still_done done later more (readers_before_join system u) (rw join at e))
  ]

  still_free : (waits : Bool) (u : ℕ) → (not waits || is_over system done u) ≡ true → (not waits || is_over system later u) ≡ true
  still_free true u e = still_over u e
  still_free false u e = refl

  still_passed : (fences : List Fence) (v : ℕ) → are_passed system fences done v ≡ true → are_passed system fences later v ≡ true
  still_passed [] v e = refl
  still_passed (f ∷ fences) v e =
      let parts = and_parts (not (eqb f.to v) || is_over system done f.from) (are_passed system fences done v) e in
      rw (still_free (eqb f.to v) f.from parts.0) (still_passed fences v parts.1)

  still_started : (fences : List Fence) (v : ℕ) → Started system fences done v → Started system fences later v
  still_started fences v is = record {
    task = is.task;
    ready = still_has_inputs done later more v system.items is.ready;
    passed = still_passed fences v is.passed;
  }

-- ---- one change after the other

module _ (system : SharedTaskSystem) (fences : List Fence) where
  start_is : (moment : Moment) (v : ℕ) → IsFencedMoment system fences moment → CanStartFenced system fences moment v
      → IsFencedMoment system fences (moment_after moment (starts v))
  start_is moment v is can =
      let started : Started system fences moment.done v = record { task = can.task; ready = can.ready; passed = can.passed } in
      record {
        once = λ u e. ⊎_elim (λ r. is.once u r) (λ s. rw (eqb-true u v s) can.not_done) (or_cases (moment.running u) (eqb u v) e);
        running = λ u e. ⊎_elim (λ r. is.running u r) (λ s. subst (Started system fences moment.done) (sym (eqb-true u v s)) started)
            (or_cases (moment.running u) (eqb u v) e);
        done = is.done;
      }

  end_is : (moment : Moment) (v : ℕ) → IsFencedMoment system fences moment → moment.running v ≡ true
      → IsFencedMoment system fences (moment_after moment (ends v))
  end_is moment v is runs =
      let later : ℕ → Bool = λ u. moment.done u || eqb u v in
      let still = still_started system moment.done later (λ u h. or_left (moment.done u) (eqb u v) h) fences in
      record {
        once = λ u e. (let parts = and_parts (moment.running u) (not (eqb u v)) e in rw (is.once u parts.0, not-true (eqb u v) parts.1) refl);
        running = λ u e. still u (is.running u (and_parts (moment.running u) (not (eqb u v)) e).0);
        done = λ u e. still u (⊎_elim (λ d. is.done u d)
            (λ s. subst (Started system fences moment.done) (sym (eqb-true u v s)) (is.running v runs)) (or_cases (moment.done u) (eqb u v) e));
      }

  pub next_is : (moment : Moment) (change : Change) → IsFencedMoment system fences moment → CanComeFenced system fences moment change
      → IsFencedMoment system fences (moment_after moment change)
  next_is moment (starts v) is can = start_is moment v is can
  next_is moment (ends v) is can = end_is moment v is can

  all_are : (moment : Moment) (before rest : List Change) → IsFencedMoment system fences moment
      → IsFencedRunFrom system fences moment (before ++ rest) → IsFencedMoment system fences (moment_after_all moment before)
  all_are moment [] rest is run = is
  all_are moment (change ∷ before) rest is run = all_are (moment_after moment change) before rest (next_is moment change is run.0) run.1

  pub first_is : IsFencedMoment system fences first_moment
  first_is = record { once = λ v e. absurd cc; running = λ v e. absurd cc; done = λ v e. absurd cc }

  pub run_is : (before rest : List Change) → IsFencedRunFrom system fences first_moment (before ++ rest)
      → IsFencedMoment system fences (moment_after_all first_moment before)
  run_is before rest run = all_are first_moment before rest first_is run
