use Rattle.std.proofs.Common.{[], ◌∷◌, refl}
use Rattle.carried_graphs.specs.Samples.{table}
use Rattle.carried_graphs_tests.proofs.Checked.{realizer}
use Rattle.carried_graphs_tests.proofs.tests.table_agrees.Goals as goal

pub graph_of-requires : goal.graph_of-requires
graph_of-requires c =
    realizer table c.in-Ok.system (1 ∷ 2 ∷ []) (1 ∷ 2 ∷ []) c.in-Ok.ensures
    ((c.order_law.ensures.fault table (1 ∷ 2 ∷ [])).0 refl) ((c.order_law.ensures.fault table (1 ∷ 2 ∷ [])).0 refl) refl
