-- What the order of a plan is, whatever it was read from.
use Rattle.std.specs.Prelude.{ℕ, List, []}
use Rattle.plan_orders.specs.declared.order.PlannedOrder.{PlannedOrder}
use Rattle.plan_orders.specs.declared.order.PlannedOrder.TheVariants.{Plan, Bounded, Listed}

-- an order of tasks, and a priority, which is empty where there is none
pub record PlannedOrderValue : Type 0 where
  pub order : List ℕ
  pub priority : List ℕ

abbrev pub unranked : List ℕ → PlannedOrderValue
unranked order = record { order = order; priority = [] }

abbrev pub value_of : PlannedOrder → PlannedOrderValue
value_of (Plan plan) = record { order = plan.order; priority = plan.priority }
value_of (Bounded plan) = unranked plan.order
value_of (Listed order) = unranked order.items
