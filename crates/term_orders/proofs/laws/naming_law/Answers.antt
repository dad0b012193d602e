use Rattle.term_orders.proofs.NamedOrders.{realizer_named}
use Rattle.term_orders.proofs.laws.naming_law.Goals as goal

pub returns : goal.returns
returns c = λ names own named first second same is. realizer_named names own named same first second is
