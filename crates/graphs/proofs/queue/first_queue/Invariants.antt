use Rattle.graphs.proofs.QueueLemmas.{IsFirst}
use Rattle.graphs.proofs.queue.first_queue.Given as goal

abbrev pub invariant-loop-v : goal.invariant-loop-v
invariant-loop-v l = IsFirst l.count l.arcs l.waits l.queue.items l.v
