-- No public clause names this.
-- A plan while it is made.
use Rattle.shared_systems.specs.Shared.{SharedTaskSystem}
use Rattle.bounded_plans.specs.BoundedPlan.{BoundedPlanValue, IsBoundedPlan}
use Rattle.bound_check.specs.Accepted.{IsBoundAccepted}
use Rattle.graph_plan.specs.Planned.{IsPlainBound}
use Rattle.graph_plan.specs.declared.draft.Draft.{Draft}

-- the plan that it is so far
abbrev pub plan_of : Draft → BoundedPlanValue
plan_of draft = record { order = draft.order.items; peak = draft.peak; bound = draft.bound; evidence = draft.evidence }

-- within the limits, accepted, and with a plain bound
pub record IsDraftPlan (system : SharedTaskSystem) (plan : BoundedPlanValue) : Type 0 where
  pub within : IsBoundedPlan plan
  pub accepted : IsBoundAccepted system plan
  pub plain : IsPlainBound system plan.bound

abbrev pub IsDraft : SharedTaskSystem → Draft → Type 0
IsDraft system draft = IsDraftPlan system (plan_of draft)
