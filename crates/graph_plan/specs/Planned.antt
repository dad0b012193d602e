-- Plans of task graphs: an order, its peak, and a bound that no order has a peak below.
use Rattle.std.specs.Prelude.{◌≡◌, ◌≤◌, ◌⊎◌, ℕ, List}
use Rattle.shared_systems.specs.Shared.{SharedTaskSystem, HasTask}
use Rattle.shared_systems.specs.SharedMemory.{shared_peak_of}
use Rattle.shared_systems.specs.SharedTraversal.{IsLeastShared}
use Rattle.peak_bounds.specs.Evidence.{memory_at_start, memory_of_task}
use Rattle.bounded_plans.specs.BoundedPlan.{BoundedPlanValue}
use Rattle.bound_check.specs.Accepted.{IsBoundAccepted}
use Rattle.bound_check.specs.Objections.{IsWithoutTerm}

-- the bound is the peak, and no order has a lower one
pub record IsLeastPlan (system : SharedTaskSystem) (plan : BoundedPlanValue) : Type 0 where
  pub met : plan.bound ≡ plan.peak
  pub least : IsLeastShared system plan.peak

-- a bound is at least what is there at the start, and what each task reads and needs
pub record IsPlainBound (system : SharedTaskSystem) (bound : ℕ) : Type 0 where
  pub start : memory_at_start system ≤ bound
  pub needs : (t : ℕ) → HasTask system t → memory_of_task system t ≤ bound

-- a plan that is accepted; it is least, or no term is made of the system: it has none, or one of too many arcs
pub record IsGraphPlan (system : SharedTaskSystem) (plan : BoundedPlanValue) : Type 0 where
  pub accepted : IsBoundAccepted system plan
  pub least_or_not : IsLeastPlan system plan ⊎ IsWithoutTerm system
  pub plain : IsPlainBound system plan.bound

-- its peak is no higher than that of another order
abbrev pub IsNoWorse : SharedTaskSystem → List ℕ → BoundedPlanValue → Type 0
IsNoWorse system order plan = plan.peak ≤ shared_peak_of system order
