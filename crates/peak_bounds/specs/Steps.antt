-- Lower bounds on the peak of every traversal, by moments within moments.
use Rattle.std.specs.Prelude.{◌≡◌, ◌==◌, ℕ, ◌+◌, ◌-◌, ◌<◌, ◌≤◌, Bool, true, false, not, ◌&&◌, ◌||◌, ◌⊎◌, if◌then◌else◌}
use Rattle.std.specs.Prelude.{List, [], ◌∷◌, ◌++◌, length, slice_index_or, pos, ◌≤ℤ◌}
use Rattle.std.specs.List.{list_any}
use Rattle.limits.specs.Limits.{most_positions}
use Rattle.mp_system.specs.Memory.{stands_in}
use Rattle.shared_systems.specs.Shared.{SharedTaskSystem, HasTask}
use Rattle.peak_bounds.specs.declared.step.Event.{Event}
use Rattle.peak_bounds.specs.declared.step.Event.TheVariants.{First, Last}
use Rattle.peak_bounds.specs.Moments.{Moment, IsMoment, is_done, is_waiting, level_of}

-- task t starts after the early tasks of the order and before its late ones; it may be late itself
pub record Starts (order : List ℕ) (early late : ℕ → Bool) (t : ℕ) : Type 0 where
  pub before : List ℕ
  pub rest : List ℕ
  pub order_is : order ≡ before ++ t ∷ rest
  pub none_early : (v : ℕ) → stands_in (t ∷ rest) v ≡ true → early v ≡ false
  pub none_late : (v : ℕ) → stands_in before v ≡ true → late v ≡ false

-- after a moment with these tasks done, the first task t of a set that waited then: the same are done, and none of the set has run.
-- Before a moment with these tasks waiting, the last task t of a set that was done then: the others of the set are done, and the
-- same wait
abbrev pub early_from : Event → (ℕ → Bool) → (ℕ → Bool) → ℕ → ℕ → Bool
early_from First done set t v = done v
early_from Last done set t v = set v && not (v == t)

abbrev pub late_from : Event → (ℕ → Bool) → (ℕ → Bool) → ℕ → ℕ → Bool
late_from First waiting set t v = set v
late_from Last waiting set t v = waiting v || v == t

-- whether a set within the moment may have task v
abbrev pub may_have : Event → Moment → ℕ → Bool
may_have First moment v = is_waiting moment v
may_have Last moment v = is_done moment v

-- a moment, the place of the one that it is within, counted from 1, or 0 for none, and whether its task is the first or the last to run
-- of those of the moments beside it
pub record Step : Type 0 where
  pub within : ℕ
  pub event : Event
  pub moment : Moment

-- what is known of nothing
abbrev pub nothing : Moment
nothing = record { task = 0; done = []; waiting = []; lowered = [] }

abbrev pub no_step : Step
no_step = record { within = 0; event = First; moment = nothing }

-- the step at a place, counted from 0
abbrev pub step_at : List Step → ℕ → Step
step_at steps k = slice_index_or steps k no_step

-- the moment at a place, counted from 1
abbrev pub moment_at : List Step → ℕ → Moment
moment_at steps p = if p == 0 then nothing else (step_at steps (p - 1)).moment

abbrev pub same_event : Event → Event → Bool
same_event First First = true
same_event First Last = false
same_event Last First = false
same_event Last Last = true

-- whether the step is within the moment at this place, with this event, and its task is v
abbrev pub is_beside : ℕ → Event → ℕ → Step → Bool
is_beside p event v step = step.within == p && (same_event step.event event && step.moment.task == v)

-- the tasks of the moments within the one at this place
abbrev pub set_of : List Step → ℕ → Event → ℕ → Bool
set_of steps p event v = list_any (is_beside p event v) steps

-- whether task v has run for certain when the step's task starts, and whether it has not, by the moment that the step is within and by
-- those beside it
abbrev pub is_early_at : List Step → Step → ℕ → Bool
is_early_at steps step v =
    early_from step.event (is_done (moment_at steps step.within)) (set_of steps step.within step.event) step.moment.task v

abbrev pub is_late_at : List Step → Step → ℕ → Bool
is_late_at steps step v =
    late_from step.event (is_waiting (moment_at steps step.within)) (set_of steps step.within step.event) step.moment.task v

-- the step after k others: its moment is within an earlier one, which may have its task; it holds by what is known there, and it has the
-- bound, by its level or as others are within it
pub record IsStep (system : SharedTaskSystem) (steps : List Step) (bound k : ℕ) (step : Step) : Type 0 where
  pub earlier : step.within ≤ k
  pub task : HasTask system step.moment.task
  pub allowed : (step.within ≡ 0) ⊎ (may_have step.event (moment_at steps step.within) step.moment.task ≡ true)
  pub holds : IsMoment system (is_early_at steps step) (is_late_at steps step) step.moment
  pub bounded : (pos bound ≤ℤ level_of system step.moment) ⊎ ((j : ℕ) × (j < length steps) × ((step_at steps j).within ≡ k + 1))

-- at least one step, and at most 4,000,001
pub record AreSteps (system : SharedTaskSystem) (steps : List Step) (bound : ℕ) : Type 0 where
  pub any : 0 < length steps
  pub few : length steps ≤ most_positions
  pub each : (k : ℕ) → k < length steps → IsStep system steps bound k (step_at steps k)
