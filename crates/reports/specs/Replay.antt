-- `replay`: the peak of an order.
use Rattle.std.specs.Prelude.{◌≡◌, ℕ, List, [], ◌∷◌, ◌++◌, Some, codes, decimal, ◌⊎◌}
use Rattle.mp_text.specs.Report.{line_text}
use Rattle.mp_system.specs.declared.system.OrderKind.{OrderKind}
use Rattle.shared_systems.specs.Shared.{SharedTaskSystem}
use Rattle.shared_systems.specs.SharedMemory.{shared_peak_of}
use Rattle.shared_systems.specs.SharedTraversal.{IsSharedTraversal, first_shared_fault}
use Rattle.requests.specs.Request.{TaskSource, OrderSource}
use Rattle.judging.specs.declared.status.Status.TheVariants as status
use Rattle.judging.specs.Files.{IsTaskSystemOf, order_refused, IsOrderFrom, Answer}

-- the peak of a traversal, or the first fault of an order that is none
abbrev pub peak_answer : ℕ → Answer
peak_answer peak = record { status = status.Done; text = line_text (codes "peak" ∷ decimal peak ∷ []) }

abbrev pub IsReplayAnswer : SharedTaskSystem → List ℕ → Answer → Type 0
IsReplayAnswer system order answer =
    (IsSharedTraversal system order × (answer ≡ peak_answer (shared_peak_of system order)))
    ⊎ ((place : ℕ) × (kind : OrderKind) × (first_shared_fault system order ≡ Some (place, kind)) × (answer ≡ order_refused place kind))

-- a replay: the texts of the tasks' files, and that of the order
abbrev pub IsReplayOf : TaskSource → OrderSource → List (List ℕ) → Answer → Type 0
IsReplayOf tasks source texts answer =
    (mine : List (List ℕ)) × (text : List ℕ) × (system : SharedTaskSystem) × (numbers : List ℕ)
    × (texts ≡ mine ++ text ∷ []) × IsTaskSystemOf tasks mine system × IsOrderFrom source text numbers × IsReplayAnswer system numbers answer
