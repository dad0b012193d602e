use Rattle.mp_system.proofs.Legal.{traversal-from_none, none-from_traversal, traversal-length}
use Rattle.mp_system.proofs.laws.traversal_law.Goals as goal

pub returns-clause-fault : goal.returns-clause-fault
returns-clause-fault c = λ system order. (traversal-from_none system order, none-from_traversal system order)

pub returns-clause-long : goal.returns-clause-long
returns-clause-long c = traversal-length
