use Rattle.elim_tree.proofs.RowSubtrees.{by_children}
use Rattle.elim_tree.proofs.laws.structure_by_children.Goals as goal

pub returns : goal.returns
returns c = λ joined n j i pattern inside vertex. by_children c.parent_is_first.ensures.parent joined pattern n inside j i vertex
