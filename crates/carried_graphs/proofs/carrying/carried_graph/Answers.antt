use Rattle.std.proofs.Common.{◌∙◌, ap, length, List, arith}
use Rattle.graphs.specs.declared.arc.Arc.{Arc}
use Rattle.carried_graphs.specs.Carried.{carried_arcs}
use Rattle.carried_graphs.proofs.CarriedGraphs.{made_plain}
use Rattle.carried_graphs.proofs.carrying.carried_graph.Goals as goal

pub graph_of-requires : goal.graph_of-requires
graph_of-requires c =
    made_plain c.in_ok-tasks.tasks.items c.deref.result.now c.args.system.now c.args.lasts.now c.keeps.ensures c.requires
    (omega (arith, ap (λ (l : List Arc). length l) c.deref.ensures.value))
    (c.in_ok-tasks.ensures.items ∙ c.tasks.ensures.value)
    (c.deref.ensures.value ∙ c.in_ok-arcs.ensures ∙ ap (carried_arcs c.args.lasts.now) c.items.ensures.value)
