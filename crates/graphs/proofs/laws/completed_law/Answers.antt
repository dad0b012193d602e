use Rattle.std.proofs.Common.{length}
use Rattle.graphs.proofs.SystemLemmas.{completed-within}
use Rattle.graphs.proofs.RankLemmas.{some-into, some-out, graph-ranked}
use Rattle.graphs.proofs.laws.completed_law.Goals as goal

pub returns-clause-into : goal.returns-clause-into
returns-clause-into c = λ graph v among. some-into (length graph.tasks) graph.arcs v among

pub returns-clause-out_of : goal.returns-clause-out_of
returns-clause-out_of c = λ graph v among. some-out (length graph.tasks) graph.arcs v among

pub returns-clause-within : goal.returns-clause-within
returns-clause-within c = λ graph is. completed-within (length graph.tasks) graph.arcs is.arcs

pub returns-clause-ranked : goal.returns-clause-ranked
returns-clause-ranked c = graph-ranked
