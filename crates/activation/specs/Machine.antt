-- The activation machine. Tasks are activated one after the other along an order, which books their memory under a bound; workers start
-- activated tasks once their suppliers are done. The method is that of E. Agullo, A. Buttari, A. Guermouche and F. Lopez, "Implementing
-- multifrontal sparse solvers for multicore architectures with sequential task flow runtime systems", ACM Transactions on Mathematical
-- Software 43, 2016; G. Aupy, C. Brasseur and L. Marchal, "Dynamic memory-aware task-tree scheduling", 2017, call it Activation.
use Rattle.std.specs.Prelude.{◌≡◌, ℕ, zero, suc, ◌+◌, ◌<◌, ◌≤◌, Bool, true, false, if◌then◌else◌, List, length, take, slice_index}
use Rattle.std.specs.Prelude.{slice_index_or, slice_set, count_by, replicate}
use Rattle.std.specs.List.{sum_by}
use Rattle.shared_systems.specs.Shared.{SharedTaskSystem, HasTask, shared_need_of}
use Rattle.shared_systems.specs.Bounds.{IsSharedSystem}
use Rattle.shared_systems.specs.SharedMemory.{shared_memory, has_inputs, shared_peak_of}
use Rattle.mp_system.specs.Memory.{stands_in}
use Rattle.shared_systems.specs.SharedTraversal.{IsSharedTraversal}
use Rattle.activation.specs.declared.events.Phase.{Phase}
use Rattle.activation.specs.declared.events.Phase.TheVariants.{Idle, Running, Done}
use Rattle.activation.specs.declared.events.EventKind.{EventKind}
use Rattle.activation.specs.declared.events.EventKind.TheVariants.{Activate, Start, Finish}

-- what a machine is given: a system, the order of activation, a bound on memory, and how many workers there are
pub record Setting : Type 0 where
  pub system : SharedTaskSystem
  pub order : List ℕ
  pub bound : ℕ
  pub workers : ℕ

-- the order is a traversal whose peak is within the bound, and there is a worker
pub record IsSetting (c : Setting) : Type 0 where
  pub system : IsSharedSystem c.system
  pub traversal : IsSharedTraversal c.system c.order
  pub bound : shared_peak_of c.system c.order ≤ c.bound
  pub workers : 1 ≤ c.workers

-- a state: so many first tasks of the order are activated, and each task has a phase, the first task the first one
pub record State : Type 0 where
  pub activated : ℕ
  pub phases : List Phase

-- the phase of a task; a number that is no task's is idle
unfoldable pub phase_in : List Phase → ℕ → Phase
phase_in phases zero = Idle
phase_in phases (suc i) = slice_index_or phases i Idle

-- the phases with that of one task changed
unfoldable pub with_phase : List Phase → ℕ → Phase → List Phase
with_phase phases zero phase = phases
with_phase phases (suc i) phase = slice_set phases i phase

abbrev pub is_idle_phase : Phase → Bool
is_idle_phase Idle = true
is_idle_phase Running = false
is_idle_phase Done = false

abbrev pub is_running_phase : Phase → Bool
is_running_phase Idle = false
is_running_phase Running = true
is_running_phase Done = false

abbrev pub is_done_phase : Phase → Bool
is_done_phase Idle = false
is_done_phase Running = false
is_done_phase Done = true

-- whether a task runs, and whether it is done
abbrev pub is_running : State → ℕ → Bool
is_running st t = is_running_phase (phase_in st.phases t)

abbrev pub is_done : State → ℕ → Bool
is_done st t = is_done_phase (phase_in st.phases t)

-- the tasks that are activated
abbrev pub activated_tasks : Setting → State → List ℕ
activated_tasks c st = take st.activated c.order

-- how many tasks run
abbrev pub running_count : Setting → State → ℕ
running_count c st = count_by (is_running st) c.order

-- booked memory: the items that are present, and the needs of the activated tasks that are not done
abbrev pub booked_memory : Setting → State → ℕ
booked_memory c st =
    shared_memory c.system (is_done st) + sum_by (λ t. if is_done st t then 0 else shared_need_of c.system t) (activated_tasks c st)

-- used memory: the items that are present, and the needs of the running tasks
abbrev pub used_memory : Setting → State → ℕ
used_memory c st =
    shared_memory c.system (is_done st) + sum_by (λ t. if is_running st t then shared_need_of c.system t else 0) c.order

-- the start: nothing is activated, and every task is idle
abbrev pub start_state : Setting → State
start_state c = record { activated = 0; phases = replicate (length c.system.tasks) Idle }

-- task t may be activated: it is the next of the order, and its need fits beside what is booked
pub record MayActivate (c : Setting) (st : State) (t : ℕ) : Type 0 where
  pub left : st.activated < length c.order
  pub next : slice_index c.order st.activated ≡ t
  pub fits : booked_memory c st + shared_need_of c.system t ≤ c.bound

-- task t may start: it is activated and has not started, what it reads has been made, and a worker is free
pub record MayStart (c : Setting) (st : State) (t : ℕ) : Type 0 where
  pub activated : stands_in (activated_tasks c st) t ≡ true
  pub idle : phase_in st.phases t ≡ Idle
  pub ready : has_inputs c.system (is_done st) t ≡ true
  pub free : running_count c st < c.workers

-- task t may finish: it runs
pub record MayFinish (c : Setting) (st : State) (t : ℕ) : Type 0 where
  pub running : phase_in st.phases t ≡ Running

-- the machine has this event in this state
abbrev pub MayHappen : Setting → State → EventKind → ℕ → Type 0
MayHappen c st Activate t = MayActivate c st t
MayHappen c st Start t = MayStart c st t
MayHappen c st Finish t = MayFinish c st t

-- the state after an event
abbrev pub state_after : State → EventKind → ℕ → State
state_after st Activate t = record { activated = st.activated + 1; phases = st.phases }
state_after st Start t = record { activated = st.activated; phases = with_phase st.phases t Running }
state_after st Finish t = record { activated = st.activated; phases = with_phase st.phases t Done }

-- every task is done
abbrev pub AllDone : Setting → State → Type 0
AllDone c st = (t : ℕ) → HasTask c.system t → is_done st t ≡ true

-- what contracts see of a core: what it was given, and its state
pub record CoreValue : Type 0 where
  pub setting : Setting
  pub state : State
