use Rattle.term_orders.proofs.BothOrders.{realizer}
use Rattle.term_orders.proofs.laws.realizer_law.Goals as goal

pub returns : goal.returns
returns c = realizer
