use Rattle.std.proofs.Common.{sym, ap, subst}
use Rattle.activation.specs.Schedule.{HoldsEach}
use Rattle.shared_systems.specs.SharedTraversal.{IsSharedTraversal}
use Rattle.plan_orders.specs.OrderOf.{value_of}
use Rattle.judging.specs.Judged.{order_tasks}
use Rattle.judging.proofs.HeldTasks.{of_traversal, of_own}
use Rattle.judging.proofs.inputs.Order.priority.Goals as goal

pub returns-in-Listed-clause-each : goal.returns-in-Listed-clause-each
returns-in-Listed-clause-each c = λ system traversal.
    subst (HoldsEach system) (sym c.deref.ensures.value)
    (of_traversal system c.in-Listed.numbers.items (subst (IsSharedTraversal system) (ap order_tasks c.in-Listed.is) traversal))

pub returns-in-Planned-clause-each : goal.returns-in-Planned-clause-each
returns-in-Planned-clause-each c = λ system traversal.
    let plan = value_of c.in-Planned.plan in
    let own = subst (IsSharedTraversal system) (ap order_tasks c.in-Planned.is) traversal in
    subst (HoldsEach system) (sym c.priority_of.ensures.value)
    (of_own system plan.order plan.priority own (c.order_law.ensures.long system plan.order own) c.priority_of.ensures.each)
