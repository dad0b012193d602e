use Rattle.hill_valley.specs.Descents.{segs_of}
use Rattle.hill_valley.proofs.Tasks.{Listing}
use Rattle.hill_valley.proofs.tree.Tree.tasks.Given as goal

abbrev pub invariant-loop-up : goal.invariant-loop-up
invariant-loop-up l = record {
  listing : Listing l.fn.ropes l.ropes l.self (segs_of l._up-iterator) l.tasks;
}
