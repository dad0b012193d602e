use Rattle.graphs.proofs.SystemLemmas.{completed-is_system}
use Rattle.graphs.proofs.system.system_of_graph.Goals as goal

pub new-requires : goal.new-requires
new-requires c = rw (c.in_ok-tasks.ensures.items, c.tasks.ensures.value, c.in_ok-items.ensures, c.completed_arcs.ensures.value)
    (completed-is_system c.args.graph.now c.tasks.ensures.graph)
