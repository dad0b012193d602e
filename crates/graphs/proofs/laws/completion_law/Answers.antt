use Rattle.graphs.proofs.CompletionLemmas.{to-completed, from-completed, peak-same, least-to, least-from}
use Rattle.graphs.proofs.laws.completion_law.Goals as goal

pub returns-clause-traversal : goal.returns-clause-traversal
returns-clause-traversal c = λ graph order. (to-completed graph order, from-completed graph order)

pub returns-clause-peak : goal.returns-clause-peak
returns-clause-peak c = λ graph order. peak-same graph order

pub returns-clause-least : goal.returns-clause-least
returns-clause-least c = λ graph peak. (least-to graph peak, least-from graph peak)
