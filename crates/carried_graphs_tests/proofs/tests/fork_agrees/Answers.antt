use Rattle.std.proofs.Common.{[], ◌∷◌, refl}
use Rattle.carried_graphs.specs.Samples.{fork}
use Rattle.carried_graphs_tests.proofs.Checked.{realizer}
use Rattle.carried_graphs_tests.proofs.tests.fork_agrees.Goals as goal

pub graph_of-requires : goal.graph_of-requires
graph_of-requires c =
    realizer fork c.in-Ok.system (1 ∷ 2 ∷ 3 ∷ 4 ∷ []) (1 ∷ 3 ∷ 2 ∷ 4 ∷ []) c.in-Ok.ensures
    ((c.order_law.ensures.fault fork (1 ∷ 2 ∷ 3 ∷ 4 ∷ [])).0 refl) ((c.order_law.ensures.fault fork (1 ∷ 3 ∷ 2 ∷ 4 ∷ [])).0 refl) refl
