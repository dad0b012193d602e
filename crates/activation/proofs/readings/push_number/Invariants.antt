use Rattle.std.proofs.Common.{◌≡◌, ◌++◌, map, take}
use Rattle.activation.specs.Schedule.{task_entry}
use Rattle.activation.specs.Consumers.{edge}
use Rattle.activation.proofs.readings.push_number.Given as goal

abbrev pub invariant-loop-reader : goal.invariant-loop-reader
invariant-loop-reader l =
    l.edges.items ≡ l.initial.edges.items ++ map (λ c. edge (task_entry l.places c) l.number) (take l.reader-index l.readers)
