use Rattle.std.proofs.Common.{◌≡◌, ◌++◌, map, take}
use Rattle.activation.specs.Schedule.{task_entry}
use Rattle.activation.specs.Consumers.{edge}
use Rattle.activation.proofs.consumers.push_edges_from.Given as goal

abbrev pub invariant-loop-reader : goal.invariant-loop-reader
invariant-loop-reader l =
    l.edges.items ≡ l.initial.edges.items ++ map (λ c. edge l.from (task_entry l.places c)) (take l.reader-index l.readers)
