use Rattle.equivalent_orders.proofs.Along.{topological_on, postorder_topological}
use Rattle.equivalent_orders.proofs.laws.topological_order_of_another.Goals as goal

pub returns-clause-on : goal.returns-clause-on
returns-clause-on c = λ joined old mid new pattern inside is_old. topological_on joined old pattern inside is_old mid new

pub returns-clause-postorder : goal.returns-clause-postorder
returns-clause-postorder c = λ joined old new pattern inside is_old. postorder_topological joined old pattern inside is_old new
