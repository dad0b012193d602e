use Rattle.std.proofs.Common.{◌≡◌, ◌++◌}
use Rattle.std.specs.VecDeque.Iter.{deque_iter_rest}
use Rattle.hill_valley.proofs.row.Row.to_tree.Given as goal

abbrev pub invariant-loop-seg : goal.invariant-loop-seg
invariant-loop-seg l = record {
  told : l.tree ++ deque_iter_rest l.seg-iterator ≡ l.self;
}
