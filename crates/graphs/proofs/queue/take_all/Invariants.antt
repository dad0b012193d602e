use Rattle.std.proofs.Common.{◌+◌, ◌-◌, sum, vec_len}
use Rattle.graphs.specs.Queue.{IsQueueTaken}
use Rattle.graphs.proofs.queue.take_all.Given as goal

abbrev pub invariant-loop-at : goal.invariant-loop-at
invariant-loop-at l = IsQueueTaken l.count l.arcs l.waits l.queue.items l.at

abbrev pub decreases-loop-at : goal.decreases-loop-at
decreases-loop-at l = sum l.waits + vec_len l.queue - l.at
