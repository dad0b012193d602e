-- The text of a tree: the file, of version 1 or 2, that is printed for it. Tree files are this project's own format.
use Rattle.std.specs.Prelude.{◌==◌, ℕ, Bool, not, if◌then◌else◌, List, [], ◌∷◌, ◌++◌, length, map, codes}
use Rattle.std.specs.Fmt.{decimal}
use Rattle.std.specs.List.{list_any}
use Rattle.file_frame.specs.declared.version.Version.{Version}
use Rattle.file_frame.specs.declared.version.Version.TheVariants.{One, Two}
use Rattle.mp_text.specs.Report.{text_of_lines}
use Rattle.trees.specs.declared.node.Node.{Node}
use Rattle.file_frame.specs.Printed.{header_line, section_line, end_line}

-- the numbers of a node: `parent out extra time`, or `parent out extra share time`
abbrev pub node_numbers : Version → Node → List ℕ
node_numbers One node = node.parent ∷ node.out ∷ node.extra ∷ node.time ∷ []
node_numbers Two node = node.parent ∷ node.out ∷ node.extra ∷ node.share ∷ node.time ∷ []

abbrev pub node_line : Version → Node → List (List ℕ)
node_line version node = map decimal (node_numbers version node)

-- the lines of a file of this version
abbrev pub tree_lines : Version → List Node → List (List (List ℕ))
tree_lines version nodes =
    header_line (codes "tree") version ∷ section_line (codes "nodes") (length nodes)
    ∷ (map (node_line version) nodes ++ end_line ∷ [])

abbrev pub tree_text_in : Version → List Node → List ℕ
tree_text_in version nodes = text_of_lines (tree_lines version nodes)

-- whether some node has a share other than 0
abbrev pub has_share : List Node → Bool
has_share nodes = list_any (λ node. not (node.share == 0)) nodes

-- the version that a tree needs: 1 where every share is 0, else 2
abbrev pub tree_version_for : List Node → Version
tree_version_for nodes = if has_share nodes then Two else One

-- the text of a tree, and its text in version 2
abbrev pub tree_text : List Node → List ℕ
tree_text nodes = tree_text_in (tree_version_for nodes) nodes

abbrev pub tree_text_2 : List Node → List ℕ
tree_text_2 nodes = tree_text_in Two nodes
