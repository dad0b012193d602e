use Rattle.std.proofs.Common.{ap, sym, subst, ◌∙◌, map}
use Rattle.trees.specs.Tree.{IsTree}
use Rattle.rounds_run.specs.RowSystem.{row_node}
use Rattle.rounds_run.proofs.RowTrees.{row_tree}
use Rattle.rounds_run.proofs.row_tree.row_system.Goals as goal

pub new-requires : goal.new-requires
new-requires c =
    subst IsTree (sym (c.in_ok-nodes.ensures ∙ ap (map row_node) c.supers.ensures.value))
    (row_tree c.args.assembly.now c.supers.ensures.assembly)
