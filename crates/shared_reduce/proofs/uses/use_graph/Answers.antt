use Rattle.std.proofs.Common.{List, length, ap, ◌∙◌, arith}
use Rattle.std.specs.Prelude.{replicate}
use Rattle.mp_system.specs.declared.system.Task.{Task}
use Rattle.graphs.specs.declared.arc.Arc.{Arc}
use Rattle.shared_systems.specs.Bounds.{use_arcs}
use Rattle.shared_reduce.specs.Uses.{bare}
use Rattle.shared_reduce.proofs.UseGraphs.{made_plain}
use Rattle.shared_reduce.proofs.uses.use_graph.Goals as goal

pub graph_of-requires : goal.graph_of-requires
graph_of-requires c =
    made_plain c.in_ok-tasks.tasks.items c.deref.result.now c.args.system.now c.keeps.ensures
    (omega (arith, ap (λ (l : List Arc). length l) c.deref.ensures.value))
    (c.in_ok-tasks.ensures.items_if_clones_equal (λ y h. h) ∙ ap (λ (l : List Task). replicate (length l) bare) c.tasks.ensures.value)
    (c.deref.ensures.value ∙ c.in_ok-arcs.ensures ∙ ap use_arcs c.items.ensures.value)
