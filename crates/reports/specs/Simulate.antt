-- `simulate`: the run of an order on several workers within a bound; what is printed speaks of the tasks, the order and the
-- run alone, whatever the priority.
use Rattle.std.specs.Prelude.{◌≡◌, ℕ, ◌<◌, ◌≤◌, List, [], ◌∷◌, ◌++◌, length, map, Option, Some, None, codes}
use Rattle.std.specs.Prelude.{decimal, ◌⊎◌}
use Rattle.mp_text.specs.Report.{text_of_lines}
use Rattle.mp_system.specs.declared.system.OrderKind.{OrderKind}
use Rattle.shared_systems.specs.Shared.{SharedTaskSystem}
use Rattle.shared_systems.specs.SharedMemory.{shared_peak_of}
use Rattle.shared_systems.specs.SharedTraversal.{IsSharedTraversal, first_shared_fault}
use Rattle.activation.specs.declared.events.Event.{Event}
use Rattle.activation.specs.Machine.{Setting, start_state}
use Rattle.activation.specs.Schedule.{IsSchedule, first_moment, last_time, most_used, most_booked}
use Rattle.requests.specs.Request.{TaskSource, OrderSource, Simulation}
use Rattle.judging.specs.declared.status.Status.TheVariants as status
use Rattle.activation.specs.Runs.{AreLegal, state_after_all, IsWithinBound, EachOnce}
use Rattle.activation.specs.declared.events.EventKind.{EventKind}
use Rattle.activation.specs.declared.events.EventKind.TheVariants.{Activate, Start, Finish}
use Rattle.judging.specs.Files.{IsTaskSystemOf, order_refused, bound_refused, Answer, IsPermFile, IsOrderFrom}
use Rattle.judging.specs.Priorities.{IsOwnPriority}

abbrev pub event_word : EventKind → List ℕ
event_word Activate = codes "activate"
event_word Start = codes "start"
event_word Finish = codes "finish"

-- `TIME activate TASK`, `TIME start TASK` or `TIME finish TASK`
abbrev pub event_line : Event → List (List ℕ)
event_line e = decimal e.time ∷ event_word e.kind ∷ decimal e.task ∷ []

-- a word and a number
abbrev pub count_line : List ℕ → ℕ → List (List ℕ)
count_line word number = word ∷ decimal number ∷ []

-- `makespan T`, `used U`, `booked B`, `events E`, the events, `end`
abbrev pub report_lines : ℕ → ℕ → ℕ → List Event → List (List (List ℕ))
report_lines makespan used booked events =
    count_line (codes "makespan") makespan
    ∷ count_line (codes "used") used
    ∷ count_line (codes "booked") booked
    ∷ count_line (codes "events") (length events)
    ∷ map event_line events ++ (codes "end" ∷ []) ∷ []

-- the moment of the last event, and the greatest used and the greatest booked memory over all states of the run
abbrev pub trace_lines : Setting → List Event → List (List (List ℕ))
trace_lines c events = report_lines (last_time 0 events) (most_used c (start_state c) events) (most_booked c (start_state c) events) events

-- the priority of n tasks, over the text of the order or the plan and those of the files after it
abbrev pub IsPriorityFrom : OrderSource → Option (List ℕ) → ℕ → List ℕ → List (List ℕ) → List ℕ → List ℕ → Type 0
IsPriorityFrom source None n text [] order priority = IsOwnPriority source text order priority
IsPriorityFrom source None n text (file ∷ files) order priority = ⊥
IsPriorityFrom source (Some name) n text [] order priority = ⊥
IsPriorityFrom source (Some name) n text (file ∷ []) order priority = IsPermFile n file priority
IsPriorityFrom source (Some name) n text (file ∷ more ∷ files) order priority = ⊥

abbrev pub simulation_answer : Setting → List Event → Answer
simulation_answer c events = record { status = status.Done; text = text_of_lines (trace_lines c events) }

-- what the machine is given
abbrev pub setting_of : SharedTaskSystem → List ℕ → Simulation → Setting
setting_of system order s = record { system = system; order = order; bound = s.bound; workers = s.workers }

-- the order is no traversal, and its first fault is told; or the bound is below its peak;
-- or the run of the setting and the priority is told
abbrev pub IsSimulation : Setting → List ℕ → Answer → Type 0
IsSimulation c priority answer =
    ((place : ℕ) × (kind : OrderKind) × (first_shared_fault c.system c.order ≡ Some (place, kind)) × (answer ≡ order_refused place kind))
    ⊎ ((IsSharedTraversal c.system c.order × (c.bound < shared_peak_of c.system c.order) × (answer ≡ bound_refused c.bound (shared_peak_of c.system c.order)))
    ⊎ ((events : List Event) × IsSharedTraversal c.system c.order × (shared_peak_of c.system c.order ≤ c.bound)
    × IsSchedule c priority (first_moment c) events × (answer ≡ simulation_answer c events)))

-- a simulation: the texts of the tasks' files, that of the order, and those after it
abbrev pub IsSimulationOf : TaskSource → OrderSource → Simulation → List (List ℕ) → Answer → Type 0
IsSimulationOf tasks source s texts answer =
    (mine : List (List ℕ)) × (text : List ℕ) × (rest : List (List ℕ)) × (system : SharedTaskSystem) × (order : List ℕ)
    × (priority : List ℕ)
    × (texts ≡ mine ++ text ∷ rest) × IsTaskSystemOf tasks mine system × IsOrderFrom source text order
    × IsPriorityFrom source s.priority (length system.tasks) text rest order priority
    × IsSimulation (setting_of system order s) priority answer

-- the events of a run that was printed are events of the machine, one after the other; each task is activated, started and finished once;
-- and in every state along them used memory is at most booked memory, and that at most the bound
pub record IsPrintedRun (c : Setting) (printed : List ℕ) : Type 0 where
  pub traversal : IsSharedTraversal c.system c.order
  pub peak_within : shared_peak_of c.system c.order ≤ c.bound
  pub events : List Event
  pub legal : AreLegal c (start_state c) events
  pub each_once : EachOnce c events
  pub within : (before rest : List Event) → events ≡ before ++ rest → IsWithinBound c (state_after_all (start_state c) before)
  pub printed_is : printed ≡ (simulation_answer c events).text

-- such a run of the tasks along the order was printed; the texts are those of the tasks' files, that of the order or the plan,
-- and those after it
pub record IsSimulated (tasks : TaskSource) (source : OrderSource) (s : Simulation) (texts : List (List ℕ)) (printed : List ℕ) : Type 0 where
  pub mine : List (List ℕ)
  pub text : List ℕ
  pub rest : List (List ℕ)
  pub texts_are : texts ≡ mine ++ text ∷ rest
  pub system : SharedTaskSystem
  pub is_system : IsTaskSystemOf tasks mine system
  pub order : List ℕ
  pub is_order : IsOrderFrom source text order
  pub run : IsPrintedRun (setting_of system order s) printed
