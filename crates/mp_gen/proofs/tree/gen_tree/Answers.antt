use Rattle.std.proofs.Common.{sym, subst, ◌∙◌, arith}
use Rattle.trees.specs.Tree.{IsTree}
use Rattle.mp_gen.specs.Dice.{dice_of}
use Rattle.mp_gen.specs.RandomTree.{draw_nodes}
use Rattle.mp_gen.proofs.TreeLemmas.{nodes-more, all-nodes, tree_of-tree}
use Rattle.mp_gen.proofs.tree.gen_tree.Goals as goal

pub loop-i-init : goal.loop-i-init
unfolding draw_nodes
loop-i-init c = record { nodes = c.new-nodes.ensures.items; dice = c.dice_of-dice.ensures }

pub loop-i-preserved : goal.loop-i-preserved
loop-i-preserved c =
    let at = c.loop-i.invariant in
    let start = dice_of c.args.seed in
    let more = nodes-more c.args.n c.loop-i.i start _ _ _ _ _ at.nodes at.dice c.draw_node.ensures c.in_ok-push.ensures.items in
    record { nodes = more.0; dice = more.1 }

pub new-requires : goal.new-requires
new-requires c =
    let all = all-nodes c.args.seed c.args.n c.loop-i.i _ (omega arith) (omega arith) c.loop-i.invariant.nodes in
    subst IsTree (sym all) (tree_of-tree c.args.seed c.args.n c.requires.some c.requires.few)

pub returns : goal.returns
returns c = c.new.ensures ∙ all-nodes c.args.seed c.args.n c.loop-i.i _ (omega arith) (omega arith) c.loop-i.invariant.nodes
