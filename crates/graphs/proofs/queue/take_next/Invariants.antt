use Rattle.std.proofs.Common.{◌≡◌, ◌+◌, ◌≤◌, sum, take, vec_len}
use Rattle.graphs.specs.Queue.{IsPartTaken}
use Rattle.graphs.proofs.queue.take_next.Given as goal

abbrev pub invariant-loop-k : goal.invariant-loop-k
invariant-loop-k l = record {
  part : IsPartTaken l.count l.arcs l.waits l.queue.items l.at l.row l.k-index;
  first : take (l.at + 1) l.queue.items ≡ take (l.at + 1) l.initial.queue.items;
  fewer : sum l.waits + vec_len l.queue ≤ sum l.initial.waits + vec_len l.initial.queue;
}
