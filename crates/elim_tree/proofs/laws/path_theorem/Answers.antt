use Rattle.elim_tree.proofs.RowSubtrees.{by_paths}
use Rattle.elim_tree.proofs.laws.path_theorem.Goals as goal

pub returns : goal.returns
returns c = by_paths
