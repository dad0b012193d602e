use Rattle.std.proofs.Common.{List, length, subst, ap, ◌∙◌, arith}
use Rattle.mp_system.specs.declared.system.Task.{Task}
use Rattle.graphs.specs.declared.arc.Arc.{Arc}
use Rattle.graphs.specs.Graph.{IsOrdering}
use Rattle.shared_systems.specs.Bounds.{use_arcs}
use Rattle.shared_systems.proofs.UseArcs.{arcs_within, arcs_long}
use Rattle.shared_systems.proofs.UseOrders.{ordering_traverses}
use Rattle.shared_systems.proofs.uses.first_order.Goals as goal

pub ordered_tasks-requires-clause-within : goal.ordered_tasks-requires-clause-within
ordered_tasks-requires-clause-within c =
    let system = c.args.system.now in
    rw (c.deref.ensures.value, c.in_ok-arcs.ensures, c.items.ensures.value, c.tasks-tasks.ensures.value)
    (arcs_within (length system.tasks) system.items c.tasks-tasks.ensures.system.items)

pub ordered_tasks-requires-clause-few : goal.ordered_tasks-requires-clause-few
ordered_tasks-requires-clause-few c =
    omega (
      arith,
      ap (λ (l : List Arc). length l) (c.deref.ensures.value ∙ c.in_ok-arcs.ensures ∙ ap use_arcs c.items.ensures.value),
      arcs_long c.args.system.now.items,
      c.tasks-tasks.ensures.system.few_uses,
    )

pub returns : goal.returns
returns c =
    let system = c.args.system.now in
    let arcs_are = c.deref.ensures.value ∙ c.in_ok-arcs.ensures ∙ ap use_arcs c.items.ensures.value in
    ordering_traverses system c.in_ok-order.order.items c.tasks-tasks.ensures.system
    (subst (λ (arcs : List Arc). IsOrdering (length system.tasks) arcs c.in_ok-order.order.items) arcs_are
    (subst (λ (tasks : List Task). IsOrdering (length tasks) c.deref.result.now c.in_ok-order.order.items)
    c.tasks-tasks.ensures.value c.in_ok-order.ensures))
