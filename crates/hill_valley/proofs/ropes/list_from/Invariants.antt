use Rattle.std.proofs.Common.{◌≡◌, [], ◌++◌, length, get_or}
use Rattle.hill_valley.specs.Ropes.{list_of_piece, lists_of}
use Rattle.hill_valley.proofs.Joins.{weights_of}
use Rattle.hill_valley.proofs.Opening.{pending, pending_weight, AllBelow}
use Rattle.hill_valley.proofs.ropes.list_from.Given as goal

abbrev pub invariant-loop-top : goal.invariant-loop-top
invariant-loop-top l = record {
  told : l.list.items ++ pending (λ i. get_or (lists_of l.joins) i []) l.todo.items
      ≡ list_of_piece (λ i. get_or (lists_of l.joins) i []) l.fn.piece;
  below : AllBelow (length l.joins) l.todo.items;
}

abbrev pub decreases-loop-top : goal.decreases-loop-top
decreases-loop-top l = pending_weight (λ i. get_or (weights_of l.joins) i 0) l.todo.items
