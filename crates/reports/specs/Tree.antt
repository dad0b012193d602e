-- `tree`: a tree file.
use Rattle.std.specs.Prelude.{List}
use Rattle.trees.specs.declared.node.Node.{Node}
use Rattle.tree_files.specs.TreeText.{tree_text}
use Rattle.judging.specs.declared.status.Status.TheVariants as status
use Rattle.judging.specs.Files.{Answer}

-- the tree file of a tree
abbrev pub tree_answer : List Node → Answer
tree_answer nodes = record { status = status.Done; text = tree_text nodes }
