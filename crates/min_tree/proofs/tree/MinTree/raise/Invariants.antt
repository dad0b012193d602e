use Rattle.std.proofs.Common.{◌≡◌, ◌*◌, ◌/◌, ◌<◌, drop}
use Rattle.min_tree.proofs.Trees.{IsMinTreeBut}
use Rattle.min_tree.proofs.tree.MinTree.raise.Given as goal

abbrev pub invariant-loop-at : goal.invariant-loop-at
invariant-loop-at l = record {
  depth : l.self-inside.depth ≡ l.initial.self-inside.depth;
  width : l.self-inside.leaves ≡ l.initial.self-inside.leaves;
  count : l.self-inside.count ≡ l.initial.self-inside.count;
  positive : 0 < l.at;
  low : l.at < 2 * l.self-inside.leaves;
  tree : IsMinTreeBut (l.at / 2) l.self-inside.depth l.self-inside.leaves l.self-inside.count l.self-inside.nodes.items;
  leaves : drop l.self-inside.leaves l.self-inside.nodes.items ≡ drop l.initial.self-inside.leaves l.initial.self-inside.nodes.items;
}

abbrev pub decreases-loop-at : goal.decreases-loop-at
decreases-loop-at l = l.at
