use Rattle.std.proofs.Common.{◌≡◌, ◌≤◌, ◌*◌, length}
use Rattle.segment_merge.specs.Merging.{AllHaveRopes, net_sum_all}
use Rattle.segment_merge_tests.proofs.tests.sides_of.Given as goal

abbrev pub invariant-loop-list : goal.invariant-loop-list
invariant-loop-list l = record {
  ropes : AllHaveRopes l.ropes l.sides.items;
  net : net_sum_all l.sides.items ≤ 2000 * length l.sides.items;
  few : length l.sides.items ≡ l.list-index;
}
