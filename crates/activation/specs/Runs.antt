-- Lists of events of the activation machine, one after the other from its start.
use Rattle.std.specs.Prelude.{◌≡◌, ◌==◌, ℕ, ◌≤◌, Bool, true, false, ◌&&◌, List, [], ◌∷◌, ◌++◌, ◌⊎◌, count_by}
use Rattle.shared_systems.specs.Shared.{HasTask}
use Rattle.activation.specs.declared.events.EventKind.{EventKind}
use Rattle.activation.specs.declared.events.EventKind.TheVariants.{Activate, Start, Finish}
use Rattle.activation.specs.declared.events.Event.{Event}
use Rattle.activation.specs.Machine.{Setting, State, is_running, MayActivate, MayStart, MayHappen, state_after, booked_memory, used_memory}

-- each event of the list is one that the machine has in the state after those before it
abbrev pub AreLegal : Setting → State → List Event → Type 0
AreLegal c st [] = Unit {0}
AreLegal c st (e ∷ es) = MayHappen c st e.kind e.task × AreLegal c (state_after st e.kind e.task) es

-- the state after the events
abbrev pub state_after_all : State → List Event → State
state_after_all st [] = st
state_after_all st (e ∷ es) = state_after_all (state_after st e.kind e.task) es

-- used memory is at most booked memory, and that at most the bound
pub record IsWithinBound (c : Setting) (st : State) : Type 0 where
  pub used : used_memory c st ≤ booked_memory c st
  pub booked : booked_memory c st ≤ c.bound

-- and so in each state along the events, from this one on
abbrev pub StaysWithinBound : Setting → State → List Event → Type 0
StaysWithinBound c st events = (before rest : List Event) → events ≡ before ++ rest → IsWithinBound c (state_after_all st before)

-- some event may happen next
abbrev pub HasNext : Setting → State → Type 0
HasNext c st = (kind : EventKind) × ((t : ℕ) × MayHappen c st kind t)

-- no task runs
abbrev pub NoneRuns : State → Type 0
NoneRuns st = (t : ℕ) → is_running st t ≡ false

-- some task may be activated, or some task may start
abbrev pub CanBegin : Setting → State → Type 0
CanBegin c st = ((t : ℕ) × MayActivate c st t) ⊎ ((t : ℕ) × MayStart c st t)

-- whether the kinds are the same
abbrev pub is_kind : EventKind → EventKind → Bool
is_kind Activate Activate = true
is_kind Start Start = true
is_kind Finish Finish = true
is_kind _ _ = false

-- how often an event of this kind comes for the task
abbrev pub times_of : EventKind → ℕ → List Event → ℕ
times_of kind t events = count_by (λ e. is_kind kind e.kind && (e.task == t)) events

-- no task is activated, started or finished twice
abbrev pub AtMostOnce : List Event → Type 0
AtMostOnce events = (kind : EventKind) (t : ℕ) → times_of kind t events ≤ 1

-- every task is activated, started and finished once
abbrev pub EachOnce : Setting → List Event → Type 0
EachOnce c events = (kind : EventKind) (t : ℕ) → HasTask c.system t → times_of kind t events ≡ 1
