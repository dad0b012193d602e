use Rattle.std.proofs.Common.{◌≡◌, take}
use Rattle.activation.specs.Schedule.{task_entry}
use Rattle.activation.specs.Consumers.{consumer_edges}
use Rattle.activation.proofs.consumers.edges_of.Given as goal

abbrev pub invariant-loop-i : goal.invariant-loop-i
invariant-loop-i l = l.edges.items ≡ consumer_edges (task_entry l.places) (take l.i l.items)
