use Rattle.elim_tree.proofs.RowSubtrees.{by_rows}
use Rattle.elim_tree.proofs.laws.row_subtrees.Goals as goal

pub returns : goal.returns
returns c = λ joined n i x pattern inside lt. by_rows c.parent_is_first.ensures.parent joined pattern n inside i x lt
