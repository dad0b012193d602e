-- No public clause names this.
-- What is known of the nodes that the lines of a tree file state, before their parents and shares are judged. The format itself
-- stands in TreeFile.antt.
use Rattle.std.specs.Prelude.{◌≡◌, ℕ, List}
use Rattle.mp_text.specs.declared.layout.Layout.TheVariants.{Commented}
use Rattle.mp_text.specs.Ahead.{rows_of_bytes, past_of_bytes}
use Rattle.mp_text.specs.Grammar.{IsWellFormed}
use Rattle.trees.specs.Judged.{AreNodesWithin}
use Rattle.tree_files.specs.TreeFile.{tree_format, nodes_stated}
use Rattle.trees.specs.declared.node.Node.{Node}

pub record AreStated (bytes : List ℕ) (nodes : List Node) : Type 0 where
  pub form : IsWellFormed tree_format (rows_of_bytes Commented bytes) (past_of_bytes bytes)
  pub nodes_are : nodes ≡ nodes_stated (rows_of_bytes Commented bytes)
  pub within : AreNodesWithin nodes
