use Rattle.equivalent_orders.proofs.FrontTraversals.{order_of_traversal, traversal_of_order}
use Rattle.equivalent_orders.proofs.laws.front_orders.Goals as goal

pub returns : goal.returns
returns c = λ shape inplace assembly fronts is. (
  order_of_traversal shape inplace assembly.supers fronts (λ s super some. ((is.each s super).parent some).1),
  traversal_of_order shape inplace assembly.supers fronts,
)
