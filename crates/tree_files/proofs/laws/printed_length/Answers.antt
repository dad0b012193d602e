use Rattle.file_frame.specs.declared.version.Version.TheVariants.{Two}
use Rattle.tree_files.specs.TreeText.{tree_version_for}
use Rattle.tree_files.proofs.LengthLemmas.{printed-within}
use Rattle.tree_files.proofs.laws.printed_length.Goals as goal

pub returns-clause-text : goal.returns-clause-text
returns-clause-text c = λ nodes tree. printed-within (tree_version_for nodes) nodes tree

pub returns-clause-text_2 : goal.returns-clause-text_2
returns-clause-text_2 c = printed-within Two
