-- `plan` of a task graph: an order, its peak, a bound that no order has a peak below, and evidence for that, which `check` accepts. Where a
-- series-parallel term tells the orders of the graph, no order has a lower peak.
use Rattle.std.specs.Prelude.{◌≡◌, ◌<◌, ◌≤◌, ◌⊎◌, ℕ, List, [], ◌∷◌, Option, Some, None}
use Rattle.mp_text.specs.Report.{line_text}
use Rattle.mp_system.specs.declared.system.OrderKind.{OrderKind}
use Rattle.shared_systems.specs.Shared.{SharedTaskSystem}
use Rattle.shared_systems.specs.SharedMemory.{shared_peak_of}
use Rattle.shared_systems.specs.SharedTraversal.{IsSharedTraversal, first_shared_fault}
use Rattle.bounded_plans.specs.BoundedPlan.{BoundedPlanValue, IsBoundedPlan}
use Rattle.bounded_plan_files.specs.Json.{bounded_json_of}
use Rattle.bounded_plan_files.specs.Printed.{bounded_plan_text}
use Rattle.bound_check.specs.Objections.{IsWithoutTerm}
use Rattle.bound_check.specs.declared.verdict.BoundVerdict.TheVariants.{Least, Above}
use Rattle.graph_plan.specs.Planned.{IsGraphPlan, IsLeastPlan, IsNoWorse}
use Rattle.requests.specs.Request.{PlanFormat, as_file, as_json}
use Rattle.judging.specs.declared.status.Status.TheVariants as status
use Rattle.judging.specs.Files.{Answer, IsSharedGraphFile, IsBoundedPlanFile, order_refused}
use Rattle.reports.specs.Bound.{IsGivenOrder}
use Rattle.reports.specs.CheckGraph.{IsBoundCheckOf, bound_verdict_answer}

-- the plan file of a plan, or its JSON on a line
abbrev pub bounded_printed : PlanFormat → BoundedPlanValue → List ℕ
bounded_printed as_file plan = bounded_plan_text plan
bounded_printed as_json plan = line_text (bounded_json_of plan ∷ [])

abbrev pub bounded_answer : PlanFormat → BoundedPlanValue → Answer
bounded_answer format plan = record { status = status.Done; text = bounded_printed format plan }

-- an order that is given is a traversal, and its peak is not below that of the plan
abbrev pub IsPlannedFrom : SharedTaskSystem → Option (List ℕ) → BoundedPlanValue → Type 0
IsPlannedFrom system None plan = Unit {0}
IsPlannedFrom system (Some order) plan = IsSharedTraversal system order × IsNoWorse system order plan

-- a plan of the graph is told, whichever it is
abbrev pub IsGraphPlanTold : SharedTaskSystem → Option (List ℕ) → PlanFormat → Answer → Type 0
IsGraphPlanTold system order format answer =
    (plan : BoundedPlanValue) × IsBoundedPlan plan × IsGraphPlan system plan × IsPlannedFrom system order plan
    × (answer ≡ bounded_answer format plan)

-- or the first fault of an order that is given
abbrev pub IsFaultTold : SharedTaskSystem → Option (List ℕ) → Answer → Type 0
IsFaultTold system None answer = ⊥
IsFaultTold system (Some order) answer =
    (place : ℕ) × (kind : OrderKind) × (first_shared_fault system order ≡ Some (place, kind)) × (answer ≡ order_refused place kind)

-- the text of the graph, and that of the order, where one is named
abbrev pub IsGraphPlanOf : Option (List ℕ) → PlanFormat → List (List ℕ) → Answer → Type 0
IsGraphPlanOf name format texts answer =
    (text : List ℕ) × (rest : List (List ℕ)) × (system : SharedTaskSystem) × (order : Option (List ℕ))
    × (texts ≡ text ∷ rest) × IsSharedGraphFile text system × IsGivenOrder name rest order
    × (IsGraphPlanTold system order format answer ⊎ IsFaultTold system order answer)

-- a plan file is printed as it is, or its plan as JSON
abbrev pub IsBoundedPrint : PlanFormat → BoundedPlanValue → List ℕ → List ℕ → Type 0
IsBoundedPrint as_file plan file printed = printed ≡ file
IsBoundedPrint as_json plan file printed = printed ≡ bounded_printed as_json plan

-- `check` of the file says yes: that the peak is least, where it is the bound, and else that it is above it
abbrev pub IsCheckedPlan : List ℕ → List ℕ → BoundedPlanValue → Type 0
IsCheckedPlan text file plan =
    ((plan.bound ≡ plan.peak) × IsBoundCheckOf (text ∷ file ∷ []) (bound_verdict_answer (Least plan.peak)))
    ⊎ ((plan.bound < plan.peak) × IsBoundCheckOf (text ∷ file ∷ []) (bound_verdict_answer (Above plan.peak plan.bound)))

-- a plan file is printed, or the JSON of its plan: its order is a traversal of the graph, no worse than the one that is given, whose peak is
-- the one that the plan states; no traversal has a peak below its bound; `check` of this file says yes; and the bound is the peak, which then
-- is least, or no term is made of the graph: it has none, or one of too many arcs
pub record IsGraphPlanned (name : Option (List ℕ)) (format : PlanFormat) (texts : List (List ℕ)) (printed : List ℕ) : Type 0 where
  pub text : List ℕ
  pub rest : List (List ℕ)
  pub texts_are : texts ≡ text ∷ rest
  pub system : SharedTaskSystem
  pub is_system : IsSharedGraphFile text system
  pub order : Option (List ℕ)
  pub is_order : IsGivenOrder name rest order
  pub plan : BoundedPlanValue
  pub file : List ℕ
  pub is_plan : IsBoundedPlanFile file plan
  pub printed_is : IsBoundedPrint format plan file printed
  pub traversal : IsSharedTraversal system plan.order
  pub peak : shared_peak_of system plan.order ≡ plan.peak
  pub below_none : (other : List ℕ) → IsSharedTraversal system other → plan.bound ≤ shared_peak_of system other
  pub least_or_not : IsLeastPlan system plan ⊎ IsWithoutTerm system
  pub planned_from : IsPlannedFrom system order plan
  pub checked : IsCheckedPlan text file plan
