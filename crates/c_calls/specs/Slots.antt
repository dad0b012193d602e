-- A slot for a core, as C holds it: what a call leaves in it, which the answer determines, and what the answer says.
use Rattle.std.specs.Prelude.{◌≡◌, ◌≢◌, ◌==◌, ◌↔◌, ◌≤◌, ℕ, true, if◌then◌else◌, Option, Some, None, option_map, MatchOption, MatchBool}
use Rattle.std.specs.Prelude.{List}
use Rattle.std.specs.Option.{option_map_or}
use Rattle.limits.specs.Limits.{most_workers}
use Rattle.mp_system.specs.System.{TaskSystem}
use Rattle.shared_systems.specs.OneReader.{shared_of}
use Rattle.shared_systems.specs.Shared.{SharedTaskSystem}
use Rattle.activation.specs.Machine.{CoreValue, Setting, IsSetting, MayActivate, MayStart, MayFinish, state_after, start_state, used_memory}
use Rattle.activation.specs.Machine.{booked_memory, is_done}
use Rattle.activation.specs.Schedule.{StandsBefore}
use Rattle.activation.specs.declared.events.EventKind.{EventKind}
use Rattle.activation.specs.declared.events.EventKind.TheVariants.{Activate}
use Rattle.c_calls.specs.declared.faults.Fault.{Fault}
use Rattle.c_calls.specs.declared.refusal.Refusal.{Refusal}
use Rattle.c_calls.specs.Faults.{IsRefusedFor}

pub record SlotValue : Type 0 where
  pub core : Option CoreValue

abbrev pub empty : SlotValue
empty = record { core = None }

abbrev pub core_setting : SharedTaskSystem → List ℕ → ℕ → ℕ → Setting
core_setting system order bound workers = record { system = system; order = order; bound = bound; workers = workers }

-- that of a system in which each item has at most one consumer
abbrev pub own_setting : TaskSystem → List ℕ → ℕ → ℕ → Setting
own_setting system order bound workers = core_setting (shared_of system) order bound workers

abbrev pub core_at_start : Setting → CoreValue
core_at_start setting = record { setting = setting; state = start_state setting }

-- 0: the core stands at its start, in the place of any that was there
abbrev pub begun : SlotValue → Setting → ℕ → SlotValue
begun s setting answer = if answer == 0 then record { core = Some (core_at_start setting) } else s

-- 0: what is given is what it must be, the order is a traversal of its system, the bound is at least its peak, and there are 1 to 4,096
-- workers; else there is a cause why there is no core
pub record IsCoreBegun (given : Type 0) (cause : Refusal → Type 0) (setting : Setting) (answer : ℕ) (before after : Fault) : Type 0 where
  pub is_given : answer ≡ 0 → given
  pub is_setting : answer ≡ 0 → IsSetting setting
  pub few_workers : answer ≡ 0 → setting.workers ≤ most_workers
  pub no_fault : answer ≡ 0 → after ≡ before
  pub refused : answer ≢ 0 → IsRefusedFor cause answer after

-- the core after an event
abbrev pub after_event : CoreValue → EventKind → ℕ → CoreValue
after_event core kind task = record { setting = core.setting; state = state_after core.state kind task }

-- 0: no task may be activated, or there is no core; else the answer is the task that was activated
abbrev pub activated : SlotValue → ℕ → SlotValue
activated s answer = if answer == 0 then s else record { core = option_map (λ core. after_event core Activate answer) s.core }

abbrev pub IsActivated : SlotValue → ℕ → Type 0
IsActivated s answer =
    MatchOption s.core (answer ≡ 0) (λ core.
    MatchBool (answer == 0) ((t : ℕ) → MayActivate core.setting core.state t → ⊥) (MayActivate core.setting core.state answer))

-- of the tasks that may start it stands first in the order
pub record StartsFirst (core : CoreValue) (task : ℕ) : Type 0 where
  pub legal : MayStart core.setting core.state task
  pub first : (t : ℕ) → MayStart core.setting core.state t → t ≢ task → StandsBefore core.setting.order task t

-- 0: no task may start, or there is no core; else the answer is the first task that may
abbrev pub IsNext : SlotValue → ℕ → Type 0
IsNext s answer =
    MatchOption s.core (answer ≡ 0) (λ core.
    MatchBool (answer == 0) ((t : ℕ) → MayStart core.setting core.state t → ⊥) (StartsFirst core answer))

-- 1 for yes, 0 for no
abbrev pub IsYes : Type 0 → ℕ → Type 0
IsYes fact answer = ((answer ≡ 1) ↔ fact) × (answer ≤ 1)

-- 1: the event took place
abbrev pub stepped : EventKind → SlotValue → ℕ → ℕ → SlotValue
stepped kind s task answer = if answer == 1 then record { core = option_map (λ core. after_event core kind task) s.core } else s

-- 1: the task may start; else 0
abbrev pub IsStarted : SlotValue → ℕ → ℕ → Type 0
IsStarted s task answer = MatchOption s.core (answer ≡ 0) (λ core. IsYes (MayStart core.setting core.state task) answer)

-- 1: the task runs; else 0
abbrev pub IsFinished : SlotValue → ℕ → ℕ → Type 0
IsFinished s task answer = MatchOption s.core (answer ≡ 0) (λ core. IsYes (MayFinish core.setting core.state task) answer)

-- 1: the task is done; else 0
abbrev pub IsDone : SlotValue → ℕ → ℕ → Type 0
IsDone s task answer = MatchOption s.core (answer ≡ 0) (λ core. IsYes (is_done core.state task ≡ true) answer)

-- without a core both are 0
abbrev pub used_in : SlotValue → ℕ
used_in s = option_map_or (λ core. used_memory core.setting core.state) s.core 0

abbrev pub booked_in : SlotValue → ℕ
booked_in s = option_map_or (λ core. booked_memory core.setting core.state) s.core 0
