use Rattle.std.proofs.Common.{◌≡◌, ◌≤◌, ◌+◌, map}
use Rattle.std.specs.List.{range_with_len}
use Rattle.assembly_tree.specs.Amalgamation.{new_number}
use Rattle.assembly_tree.proofs.merges.count_left.Given as goal

abbrev pub invariant-loop-supernode : goal.invariant-loop-supernode
invariant-loop-supernode l = record {
  small : l.left ≤ l.supernode-index;
  left : l.left ≡ new_number l.supers l.supernode-index;
  numbers : l.numbers.items ≡ map (new_number l.supers) (range_with_len 0 (l.supernode-index + 1));
}
