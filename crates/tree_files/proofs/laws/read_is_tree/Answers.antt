use Rattle.tree_files.proofs.FileLemmas.{reads-is_tree}
use Rattle.tree_files.proofs.laws.read_is_tree.Goals as goal

pub returns : goal.returns
returns c = reads-is_tree
