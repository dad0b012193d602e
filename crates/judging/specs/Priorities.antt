-- The priority that comes with an order: that of its plan, or the order itself.
use Rattle.std.specs.Prelude.{◌≡◌, ℕ, List, [], ◌∷◌}
use Rattle.requests.specs.Request.{OrderSource, order_named, plan_named}
use Rattle.plan_orders.specs.OrderOf.{PlannedOrderValue}
use Rattle.judging.specs.Files.{IsPlannedOrderFile}

-- the priority of a plan that has one, else the order
abbrev pub priority_or : List ℕ → List ℕ → List ℕ
priority_or order [] = order
priority_or order (v ∷ vs) = v ∷ vs

-- the priority without a file: of the plan, where there is one and it has a priority, else the order
abbrev pub IsOwnPriority : OrderSource → List ℕ → List ℕ → List ℕ → Type 0
IsOwnPriority (order_named name) text order priority = priority ≡ order
IsOwnPriority (plan_named name) text order priority =
    (plan : PlannedOrderValue) × IsPlannedOrderFile text plan × (priority ≡ priority_or order plan.priority)
