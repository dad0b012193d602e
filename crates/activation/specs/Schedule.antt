-- The simulated run: the one schedule of a setting and a priority, and its trace.
use Rattle.std.specs.Prelude.{◌≡◌, ◌≢◌, ◌==◌, ℕ, zero, suc, ◌+◌, ◌<◌, ◌≤◌, ◌⊎◌, max, List, [], ◌∷◌, All, length, slice_index, slice_set}
use Rattle.std.specs.Prelude.{replicate, count_by}
use Rattle.shared_systems.specs.Shared.{SharedTaskSystem, HasTask, shared_task_at}
use Rattle.activation.specs.declared.events.Phase.TheVariants.{Running}
use Rattle.activation.specs.declared.events.EventKind.{EventKind}
use Rattle.activation.specs.declared.events.EventKind.TheVariants.{Activate, Start, Finish}
use Rattle.activation.specs.declared.events.Event.{Event}
use Rattle.activation.specs.Machine.{Setting, State, phase_in, MayActivate, MayStart, MayFinish, state_after, start_state, AllDone}
use Rattle.activation.specs.Machine.{booked_memory, used_memory}

-- the number of a task in a list that has one for each task, the first task's first; 0 for a number that is no task's
unfoldable pub task_entry : List ℕ → ℕ → ℕ
task_entry numbers zero = 0
task_entry numbers (suc i) = slice_index numbers i

-- the list with the number of one task changed
unfoldable pub with_task_entry : List ℕ → ℕ → ℕ → List ℕ
with_task_entry numbers zero number = numbers
with_task_entry numbers (suc i) number = slice_set numbers i number

-- a state in time: the machine's state, the time, and the moment at which each started task is due
pub record Moment : Type 0 where
  pub state : State
  pub time : ℕ
  pub dues : List ℕ

-- a task that starts is due its duration later
abbrev pub dues_after : Setting → List ℕ → EventKind → ℕ → ℕ → List ℕ
dues_after c dues Activate time t = dues
dues_after c dues Start time t = with_task_entry dues t (time + (shared_task_at c.system t).time)
dues_after c dues Finish time t = dues

-- the moment after an event
abbrev pub moment_after : Setting → Moment → Event → Moment
moment_after c m e = record { state = state_after m.state e.kind e.task; time = e.time; dues = dues_after c m.dues e.kind e.time e.task }

-- the start, at moment 0
abbrev pub first_moment : Setting → Moment
first_moment c = record { state = start_state c; time = 0; dues = replicate (length c.system.tasks) 0 }

-- the one task stands before the other in the list
pub record StandsBefore (tasks : List ℕ) (t u : ℕ) : Type 0 where
  pub place : ℕ
  pub later : ℕ
  pub within : later < length tasks
  pub before : place < later
  pub here : slice_index tasks place ≡ t
  pub there : slice_index tasks later ≡ u

-- every task stands in the list once, and nothing else: so much a priority keeps to
pub record HoldsEach (system : SharedTaskSystem) (tasks : List ℕ) : Type 0 where
  pub once : (t : ℕ) → HasTask system t → count_by (λ u. u == t) tasks ≡ 1
  pub within : All (HasTask system) tasks

-- no running task is due now, no task may be activated, and none may start
abbrev pub NoneDue : Moment → Type 0
NoneDue m = (u : ℕ) → phase_in m.state.phases u ≡ Running → m.time < task_entry m.dues u

abbrev pub NoneActivates : Setting → Moment → Type 0
NoneActivates c m = (u : ℕ) → MayActivate c m.state u → ⊥

abbrev pub NoneStarts : Setting → Moment → Type 0
NoneStarts c m = (u : ℕ) → MayStart c m.state u → ⊥

-- a finish comes next: the task is due first, and stands first in the order of those that are due with it; it is due now, or no task may
-- be activated or start, and then time moves to the moment at which it is due
pub record FinishesNext (c : Setting) (m : Moment) (time t : ℕ) : Type 0 where
  pub legal : MayFinish c m.state t
  pub due : task_entry m.dues t ≡ time
  pub least : (u : ℕ) → phase_in m.state.phases u ≡ Running → time ≤ task_entry m.dues u
  pub first : (u : ℕ) → phase_in m.state.phases u ≡ Running → task_entry m.dues u ≡ time → u ≢ t → StandsBefore c.order t u
  pub now_or_idle : (time ≡ m.time) ⊎ (NoneDue m × NoneActivates c m × NoneStarts c m)

-- an activation comes next: no finish is due
pub record ActivatesNext (c : Setting) (m : Moment) (time t : ℕ) : Type 0 where
  pub legal : MayActivate c m.state t
  pub now_is : time ≡ m.time
  pub none_due : NoneDue m

-- a start comes next: no finish is due, no task may be activated, and of the tasks that may start this one stands first in the priority
pub record StartsNext (c : Setting) (priority : List ℕ) (m : Moment) (time t : ℕ) : Type 0 where
  pub legal : MayStart c m.state t
  pub now_is : time ≡ m.time
  pub none_due : NoneDue m
  pub none_activates : NoneActivates c m
  pub first : (u : ℕ) → MayStart c m.state u → u ≢ t → StandsBefore priority t u

abbrev pub ComesNext : Setting → List ℕ → Moment → EventKind → ℕ → ℕ → Type 0
ComesNext c priority m Activate time t = ActivatesNext c m time t
ComesNext c priority m Start time t = StartsNext c priority m time t
ComesNext c priority m Finish time t = FinishesNext c m time t

-- these events come next, one after the other, until every task is done
abbrev pub IsSchedule : Setting → List ℕ → Moment → List Event → Type 0
IsSchedule c priority m [] = AllDone c m.state
IsSchedule c priority m (e ∷ es) = ComesNext c priority m e.kind e.time e.task × IsSchedule c priority (moment_after c m e) es

-- the moment of the last event, or the given one without events
abbrev pub last_time : ℕ → List Event → ℕ
last_time time [] = time
last_time time (e ∷ es) = last_time e.time es

-- the greatest used memory, and the greatest booked memory, over all states along the events, the first one included
abbrev pub most_used : Setting → State → List Event → ℕ
most_used c st [] = used_memory c st
most_used c st (e ∷ es) = max (used_memory c st) (most_used c (state_after st e.kind e.task) es)

abbrev pub most_booked : Setting → State → List Event → ℕ
most_booked c st [] = booked_memory c st
most_booked c st (e ∷ es) = max (booked_memory c st) (most_booked c (state_after st e.kind e.task) es)
