-- `fence` within a bound, without an order: fences along the order of a plan, whichever is made; what is printed is a file of fences, as along
-- an order that is given. Where the bound is refused, it is below the peak of that plan; and where a series-parallel term tells the orders of
-- the tasks, no order has a lower peak, so that none keeps within the bound.
use Rattle.std.specs.Prelude.{◌≤◌, ℕ, List}
use Rattle.shared_systems.specs.Shared.{SharedTaskSystem}
use Rattle.shared_systems.specs.SharedMemory.{shared_peak_of}
use Rattle.shared_systems.specs.SharedTraversal.{IsSharedTraversal}
use Rattle.bounded_plans.specs.BoundedPlan.{BoundedPlanValue}
use Rattle.graph_plan.specs.Planned.{IsGraphPlan}
use Rattle.fences.specs.SharedRuns.{GoesOn, KeepsBound}
use Rattle.fences.specs.Certificates.{Certificate, Certifies}
use Rattle.fence_files.specs.FenceFile.{ReadsFences}
use Rattle.requests.specs.Request.{TaskSource, Fencing}
use Rattle.judging.specs.Files.{Answer, IsTaskSystemOf}
use Rattle.reports.specs.Fence.{IsAskedFor, IsFenceAnswer}

-- what is told along the order of some plan of the system. The plan is accepted: its order is a traversal, whose peak it states, and no
-- traversal has a peak below its bound; and its peak is least, or no term is made of the system
abbrev pub IsPlannedFenceAnswer : SharedTaskSystem → Fencing → Answer → Type 0
IsPlannedFenceAnswer system f answer =
    (plan : BoundedPlanValue) × IsGraphPlan system plan × IsFenceAnswer system plan.order f answer

-- the same of tasks: the texts are those of their files
abbrev pub IsPlannedFenceAnswerOf : TaskSource → Fencing → List (List ℕ) → Answer → Type 0
IsPlannedFenceAnswerOf tasks f texts answer =
    (system : SharedTaskSystem) × IsTaskSystemOf tasks texts system × IsPlannedFenceAnswer system f answer

-- along every parallel run that keeps to the fences, on as many workers as were asked for, memory stays within the bound, which is at least
-- the peak of some order, and no such run comes to a stop before all tasks are done; what was printed is read as the fences, which `check`
-- accepts
pub record IsFencedWithin (tasks : TaskSource) (f : Fencing) (texts : List (List ℕ)) (printed : List ℕ) : Type 0 where
  pub system : SharedTaskSystem
  pub is_system : IsTaskSystemOf tasks texts system
  pub order : List ℕ
  pub traversal : IsSharedTraversal system order
  pub peak_within : shared_peak_of system order ≤ f.bound
  pub certificate : Certificate
  pub asked : IsAskedFor f certificate
  pub certifies : Certifies system certificate
  pub keeps_bound : KeepsBound system certificate.fences certificate.workers f.bound
  pub goes_on : GoesOn system certificate.fences
  pub reads : ReadsFences printed certificate
