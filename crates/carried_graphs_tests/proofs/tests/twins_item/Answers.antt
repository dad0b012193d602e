use Rattle.std.proofs.Common.{[], ◌∷◌, refl}
use Rattle.carried_graphs_tests.specs.Twins.{twins}
use Rattle.carried_graphs_tests.proofs.Checked.{realizer}
use Rattle.carried_graphs_tests.proofs.tests.twins_item.Goals as goal

pub graph_of-requires : goal.graph_of-requires
graph_of-requires c =
    realizer twins c.in-Ok.system (1 ∷ 2 ∷ 3 ∷ []) (1 ∷ 3 ∷ 2 ∷ []) c.in-Ok.ensures
    ((c.order_law.ensures.fault twins (1 ∷ 2 ∷ 3 ∷ [])).0 refl) ((c.order_law.ensures.fault twins (1 ∷ 3 ∷ 2 ∷ [])).0 refl) refl
