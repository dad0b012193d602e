use Rattle.trees.proofs.SystemLemmas.{tree_system}
use Rattle.trees.proofs.system.system_of_tree.Goals as goal

pub new-requires : goal.new-requires
new-requires c =
    rw (c.in_ok-tasks.ensures, c.in_ok-items.ensures, c.nodes-nodes.ensures.value) (tree_system c.args.tree.now c.nodes-nodes.ensures.tree)
