-- `bound`: a number that no order of a task graph has a peak below, with evidence for it; and the peak of an order, where one is given.
use Rattle.std.specs.Prelude.{◌≡◌, ◌≤◌, ◌⊎◌, ℕ, List, [], ◌∷◌, ◌++◌, Option, Some, None, codes, decimal}
use Rattle.mp_text.specs.Report.{line_text}
use Rattle.mp_system.specs.declared.system.OrderKind.{OrderKind}
use Rattle.shared_systems.specs.Shared.{SharedTaskSystem, HasTask}
use Rattle.shared_systems.specs.SharedMemory.{shared_peak_of}
use Rattle.shared_systems.specs.SharedTraversal.{IsSharedTraversal, first_shared_fault}
use Rattle.peak_bounds.specs.declared.evidence.Evidence.{Evidence}
use Rattle.peak_bounds.specs.Evidence.{IsEvidence, memory_at_start, memory_of_task}
use Rattle.bounded_plans.specs.BoundedPlan.{IsWithin}
use Rattle.bounded_plans.specs.declared.evidence.BoundEvidence.TheVariants.{Sums}
use Rattle.bounded_plan_files.specs.Printed.{bound_text}
use Rattle.judging.specs.declared.status.Status.TheVariants as status
use Rattle.judging.specs.Files.{Answer, IsSharedGraphFile, IsOrderFile, order_refused}

-- evidence for a bound, which is at least what is there at the start, and what each task reads and needs
pub record IsBoundBy (system : SharedTaskSystem) (evidence : Evidence) (bound : ℕ) : Type 0 where
  pub shown : IsEvidence system evidence bound
  pub within : IsWithin (Sums evidence)
  pub start : memory_at_start system ≤ bound
  pub needs : (t : ℕ) → HasTask system t → memory_of_task system t ≤ bound

-- `peak PEAK`, where an order is given
abbrev pub peak_text : Option ℕ → List ℕ
peak_text None = []
peak_text (Some peak) = line_text (codes "peak" ∷ decimal peak ∷ [])

-- and behind it the bound and its evidence, as in a plan file
abbrev pub bound_answer : Option ℕ → ℕ → Evidence → Answer
bound_answer peak bound evidence = record { status = status.Done; text = peak_text peak ++ bound_text bound (Sums evidence) }

-- a bound is told, whichever it is
abbrev pub IsBoundTold : SharedTaskSystem → Option ℕ → Answer → Type 0
IsBoundTold system peak answer =
    (bound : ℕ) × (evidence : Evidence) × IsBoundBy system evidence bound × (answer ≡ bound_answer peak bound evidence)

-- an order that is given is a traversal, or its first fault is told
abbrev pub IsBoundAnswer : SharedTaskSystem → Option (List ℕ) → Answer → Type 0
IsBoundAnswer system None answer = IsBoundTold system None answer
IsBoundAnswer system (Some order) answer =
    (IsSharedTraversal system order × IsBoundTold system (Some (shared_peak_of system order)) answer)
    ⊎ ((place : ℕ) × (kind : OrderKind) × (first_shared_fault system order ≡ Some (place, kind)) × (answer ≡ order_refused place kind))

-- the order of a file, where one is named
abbrev pub IsGivenOrder : Option (List ℕ) → List (List ℕ) → Option (List ℕ) → Type 0
IsGivenOrder None [] None = Unit {0}
IsGivenOrder (Some name) (text ∷ []) (Some order) = IsOrderFile text order
IsGivenOrder name texts order = ⊥

-- a bound: the text of the graph, and that of the order, where one is named
abbrev pub IsBoundOf : Option (List ℕ) → List (List ℕ) → Answer → Type 0
IsBoundOf name texts answer =
    (text : List ℕ) × (rest : List (List ℕ)) × (system : SharedTaskSystem) × (order : Option (List ℕ))
    × (texts ≡ text ∷ rest) × IsSharedGraphFile text system × IsGivenOrder name rest order × IsBoundAnswer system order answer

-- the peak of the order that is given, which is a traversal
abbrev pub IsPeakGiven : SharedTaskSystem → Option (List ℕ) → Option ℕ → Type 0
IsPeakGiven system None None = Unit {0}
IsPeakGiven system (Some order) (Some peak) = IsSharedTraversal system order × (peak ≡ shared_peak_of system order)
IsPeakGiven system order peak = ⊥

-- what is printed is a number that no traversal of the graph has a peak below, with evidence for it; and before it the peak of the order,
-- where one is given, which is a traversal
pub record IsBounded (name : Option (List ℕ)) (texts : List (List ℕ)) (printed : List ℕ) : Type 0 where
  pub text : List ℕ
  pub rest : List (List ℕ)
  pub texts_are : texts ≡ text ∷ rest
  pub system : SharedTaskSystem
  pub is_system : IsSharedGraphFile text system
  pub order : Option (List ℕ)
  pub is_order : IsGivenOrder name rest order
  pub peak : Option ℕ
  pub is_peak : IsPeakGiven system order peak
  pub bound : ℕ
  pub evidence : Evidence
  pub is_bound : IsBoundBy system evidence bound
  pub below_none : (other : List ℕ) → IsSharedTraversal system other → bound ≤ shared_peak_of system other
  pub printed_is : printed ≡ peak_text peak ++ bound_text bound (Sums evidence)
