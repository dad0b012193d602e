use Rattle.std.proofs.Common.{◌≡◌}
use Rattle.mp_gen.specs.Dice.{dice_of}
use Rattle.mp_gen.specs.RandomTree.{draw_nodes}
use Rattle.mp_gen.proofs.tree.gen_tree.Given as goal

abbrev pub invariant-loop-i : goal.invariant-loop-i
invariant-loop-i l = record {
  nodes : l.nodes.items ≡ (draw_nodes l.n l.i (dice_of l.seed)).0;
  dice : l.dice ≡ (draw_nodes l.n l.i (dice_of l.seed)).1;
}
