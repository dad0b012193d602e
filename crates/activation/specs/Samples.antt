-- No public clause names this.
-- Worked examples on two workers, each with as little memory as its order allows and with more: a tree of five nodes; three tasks that read
-- one item, and one that reads what they make.
use Rattle.std.specs.Prelude.{◌≡◌, ℕ, Option, Some, List, [], ◌∷◌, map, refl}
use Rattle.mp_system.specs.declared.system.Task.{Task}
use Rattle.shared_systems.specs.Shared.{SharedItem, SharedTaskSystem, shared_need_of}
use Rattle.shared_systems.specs.SharedMemory.{shared_peak_of}
use Rattle.activation.specs.declared.events.EventKind.{EventKind}
use Rattle.activation.specs.declared.events.EventKind.TheVariants.{Activate, Start, Finish}
use Rattle.activation.specs.declared.events.Event.{Event}
use Rattle.activation.specs.Machine.{Setting, State, phase_in, with_phase, start_state, state_after, booked_memory, used_memory}
use Rattle.activation.specs.Runs.{times_of}
use Rattle.activation.specs.Schedule.{last_time, most_used, most_booked}

abbrev pub task : ℕ → ℕ → ℕ → Task
task extra share time = record { extra = extra; share = share; time = time }

abbrev pub item : ℕ → Option ℕ → List ℕ → SharedItem
item size from readers = record { size = size; from = from; readers = readers }

-- 5 has the children 2 and 4, which have the children 1 and 3; 1 and 3 need 9 beside what they produce
abbrev pub tree : SharedTaskSystem
tree = record {
  tasks = task 9 0 1 ∷ task 0 0 1 ∷ task 9 0 1 ∷ task 0 0 1 ∷ task 0 0 1 ∷ [];
  items =
      item 1 (Some 1) (2 ∷ []) ∷ item 5 (Some 2) (5 ∷ []) ∷ item 1 (Some 3) (4 ∷ []) ∷ item 5 (Some 4) (5 ∷ [])
      ∷ item 0 (Some 5) [] ∷ [];
}

abbrev pub setting : ℕ → ℕ → Setting
setting bound workers = record { system = tree; order = 1 ∷ 3 ∷ 2 ∷ 4 ∷ 5 ∷ []; bound = bound; workers = workers }

abbrev pub event : ℕ → EventKind → ℕ → Event
event time kind task = record { time = time; kind = kind; task = task }

-- with a bound of 11, the peak of the order: one leaf is booked and run after the other
abbrev pub tight : List Event
tight =
    event 0 Activate 1 ∷ event 0 Start 1 ∷ event 1 Finish 1 ∷ event 1 Activate 3 ∷ event 1 Start 3 ∷ event 2 Finish 3 ∷ event 2 Activate 2
    ∷ event 2 Start 2 ∷ event 3 Finish 2 ∷ event 3 Activate 4 ∷ event 3 Activate 5 ∷ event 3 Start 4 ∷ event 4 Finish 4 ∷ event 4 Start 5
    ∷ event 5 Finish 5 ∷ []

-- booked memory, and used memory, in each state along the events
abbrev pub booked_along : Setting → State → List Event → List ℕ
booked_along c st [] = booked_memory c st ∷ []
booked_along c st (e ∷ es) = booked_memory c st ∷ booked_along c (state_after st e.kind e.task) es

abbrev pub used_along : Setting → State → List Event → List ℕ
used_along c st [] = used_memory c st ∷ []
used_along c st (e ∷ es) = used_memory c st ∷ used_along c (state_after st e.kind e.task) es

pub tight_booked :
    booked_along (setting 11 2) (start_state (setting 11 2)) tight
    ≡ 0 ∷ 10 ∷ 10 ∷ 1 ∷ 11 ∷ 11 ∷ 2 ∷ 7 ∷ 7 ∷ 6 ∷ 11 ∷ 11 ∷ 11 ∷ 10 ∷ 10 ∷ 0 ∷ []
unfolding phase_in with_phase
tight_booked = refl

pub tight_used :
    used_along (setting 11 2) (start_state (setting 11 2)) tight
    ≡ 0 ∷ 0 ∷ 10 ∷ 1 ∷ 1 ∷ 11 ∷ 2 ∷ 2 ∷ 7 ∷ 6 ∷ 6 ∷ 6 ∷ 11 ∷ 10 ∷ 10 ∷ 0 ∷ []
unfolding phase_in with_phase
tight_used = refl

-- with a bound of 22 both leaves run at once
abbrev pub wide : List Event
wide =
    event 0 Activate 1 ∷ event 0 Activate 3 ∷ event 0 Start 1 ∷ event 0 Start 3 ∷ event 1 Finish 1 ∷ event 1 Finish 3 ∷ event 1 Activate 2
    ∷ event 1 Activate 4 ∷ event 1 Activate 5 ∷ event 1 Start 2 ∷ event 1 Start 4 ∷ event 2 Finish 2 ∷ event 2 Finish 4 ∷ event 2 Start 5
    ∷ event 3 Finish 5 ∷ []

pub wide_trace :
    last_time 0 wide ∷ most_used (setting 22 2) (start_state (setting 22 2)) wide
    ∷ most_booked (setting 22 2) (start_state (setting 22 2)) wide ∷ []
    ≡ 3 ∷ 20 ∷ 20 ∷ []
unfolding phase_in with_phase
wide_trace = refl

pub wide_times : map (λ t. times_of Start t wide) (1 ∷ 2 ∷ 3 ∷ 4 ∷ 5 ∷ 6 ∷ []) ≡ 1 ∷ 1 ∷ 1 ∷ 1 ∷ 1 ∷ 0 ∷ []
wide_times = refl

-- 1 makes an item of 4, which 2, 3 and 4 read; 5 reads the three items of 1 that they make, and takes one of them over
abbrev pub fan : SharedTaskSystem
fan = record {
  tasks = task 0 0 1 ∷ task 2 0 2 ∷ task 2 0 1 ∷ task 2 0 1 ∷ task 0 1 1 ∷ [];
  items =
      item 4 (Some 1) (2 ∷ 3 ∷ 4 ∷ []) ∷ item 1 (Some 2) (5 ∷ []) ∷ item 1 (Some 3) (5 ∷ []) ∷ item 1 (Some 4) (5 ∷ [])
      ∷ item 2 (Some 5) [] ∷ [];
}

abbrev pub fan_setting : ℕ → Setting
fan_setting bound = record { system = fan; order = 1 ∷ 2 ∷ 3 ∷ 4 ∷ 5 ∷ []; bound = bound; workers = 2 }

pub fan_needs : map (shared_need_of fan) (1 ∷ 2 ∷ 3 ∷ 4 ∷ 5 ∷ []) ≡ 4 ∷ 3 ∷ 3 ∷ 3 ∷ 1 ∷ []
fan_needs = refl

-- the item of 4, two of 1 and the need of 4
pub fan_peak : shared_peak_of fan (1 ∷ 2 ∷ 3 ∷ 4 ∷ 5 ∷ []) ≡ 9
fan_peak = refl

-- with a bound of 9, the peak of the order, the readers run one after the other
abbrev pub fan_tight : List Event
fan_tight =
    event 0 Activate 1 ∷ event 0 Activate 2 ∷ event 0 Start 1 ∷ event 1 Finish 1 ∷ event 1 Start 2 ∷ event 3 Finish 2 ∷ event 3 Activate 3
    ∷ event 3 Start 3 ∷ event 4 Finish 3 ∷ event 4 Activate 4 ∷ event 4 Start 4 ∷ event 5 Finish 4 ∷ event 5 Activate 5 ∷ event 5 Start 5
    ∷ event 6 Finish 5 ∷ []

-- the item of 4 goes with its last reader, when 4 finishes, and not before
pub fan_tight_booked :
    booked_along (fan_setting 9) (start_state (fan_setting 9)) fan_tight
    ≡ 0 ∷ 4 ∷ 7 ∷ 7 ∷ 7 ∷ 7 ∷ 5 ∷ 8 ∷ 8 ∷ 6 ∷ 9 ∷ 9 ∷ 3 ∷ 4 ∷ 4 ∷ 2 ∷ []
unfolding phase_in with_phase
fan_tight_booked = refl

pub fan_tight_used :
    used_along (fan_setting 9) (start_state (fan_setting 9)) fan_tight
    ≡ 0 ∷ 0 ∷ 0 ∷ 4 ∷ 4 ∷ 7 ∷ 5 ∷ 5 ∷ 8 ∷ 6 ∷ 6 ∷ 9 ∷ 3 ∷ 3 ∷ 4 ∷ 2 ∷ []
unfolding phase_in with_phase
fan_tight_used = refl

-- with a bound of 14 all are activated at once; two readers run side by side, and the longer one ends with the third
abbrev pub fan_wide : List Event
fan_wide =
    event 0 Activate 1 ∷ event 0 Activate 2 ∷ event 0 Activate 3 ∷ event 0 Activate 4 ∷ event 0 Activate 5 ∷ event 0 Start 1
    ∷ event 1 Finish 1 ∷ event 1 Start 2 ∷ event 1 Start 3 ∷ event 2 Finish 3 ∷ event 2 Start 4 ∷ event 3 Finish 2 ∷ event 3 Finish 4
    ∷ event 3 Start 5 ∷ event 4 Finish 5 ∷ []

pub fan_wide_booked :
    booked_along (fan_setting 14) (start_state (fan_setting 14)) fan_wide
    ≡ 0 ∷ 4 ∷ 7 ∷ 10 ∷ 13 ∷ 14 ∷ 14 ∷ 14 ∷ 14 ∷ 14 ∷ 12 ∷ 12 ∷ 10 ∷ 4 ∷ 4 ∷ 2 ∷ []
unfolding phase_in with_phase
fan_wide_booked = refl

pub fan_wide_used :
    used_along (fan_setting 14) (start_state (fan_setting 14)) fan_wide
    ≡ 0 ∷ 0 ∷ 0 ∷ 0 ∷ 0 ∷ 0 ∷ 4 ∷ 4 ∷ 7 ∷ 10 ∷ 8 ∷ 11 ∷ 9 ∷ 3 ∷ 4 ∷ 2 ∷ []
unfolding phase_in with_phase
fan_wide_used = refl

pub fan_wide_trace :
    last_time 0 fan_wide ∷ most_used (fan_setting 14) (start_state (fan_setting 14)) fan_wide
    ∷ most_booked (fan_setting 14) (start_state (fan_setting 14)) fan_wide ∷ []
    ≡ 4 ∷ 11 ∷ 14 ∷ []
unfolding phase_in with_phase
fan_wide_trace = refl
