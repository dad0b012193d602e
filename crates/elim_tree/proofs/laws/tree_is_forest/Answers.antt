use Rattle.elim_tree.proofs.Columns.{parents_rise}
use Rattle.elim_tree.proofs.laws.tree_is_forest.Goals as goal

pub returns : goal.returns
returns c = parents_rise c.parent_is_first.ensures.parent
