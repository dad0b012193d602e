use Rattle.std.specs.VecDeque.Iter.{deque_iter_rest}
use Rattle.hill_valley.proofs.Tasks.{Listing}
use Rattle.hill_valley.proofs.row.Row.tasks.Given as goal

abbrev pub invariant-loop-seg : goal.invariant-loop-seg
invariant-loop-seg l = record {
  listing : Listing l.fn.ropes l.ropes l.self (deque_iter_rest l.seg-iterator) l.tasks;
}
