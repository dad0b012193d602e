use Rattle.shared_systems.proofs.OneReader.{graph_within, traversal_within}
use Rattle.shared_systems.proofs.laws.one_reader_system_law.Goals as goal

pub returns-clause-graph : goal.returns-clause-graph
returns-clause-graph c = graph_within

pub returns-clause-system : goal.returns-clause-system
returns-clause-system c = λ system order is traversal. traversal_within system is order traversal
