use Rattle.ordering.proofs.OneOrder.{one_order_only, plain_is}
use Rattle.ordering.proofs.laws.one_minimum_degree_order.Goals as goal

pub returns-clause-some : goal.returns-clause-some
returns-clause-some c = plain_is

pub returns-clause-one : goal.returns-clause-one
returns-clause-one c = one_order_only
