-- The forest of a tree's nodes, and its postorder (Liu 1990, The role of elimination trees in sparse factorization).
use Rattle.std.specs.Prelude.{◌≡◌, ◌==◌, ℕ, ◌+◌, ◌≤◌, List, [], ◌∷◌, ◌++◌, length}
use Rattle.std.specs.List.{filter, range_with_len}
use Rattle.row_table.specs.Rows.{row_at}
use Rattle.trees.specs.declared.node.Node.{Node}
use Rattle.trees.specs.Tree.{parent_of_node}

-- a forest: no trees; or the tree of a node, with the trees of its children below it, and the trees beside it
pub data Forest : Type 0 where
  no_trees : Forest
  tree : ℕ → Forest → Forest → Forest

-- the nodes on top of the trees
abbrev pub roots_of : Forest → List ℕ
roots_of no_trees = []
roots_of (tree v children others) = v ∷ roots_of others

-- the nodes in postorder: each after those below it
abbrev pub all_numbers : Forest → List ℕ
all_numbers no_trees = []
all_numbers (tree v children others) = (all_numbers children ++ v ∷ []) ++ all_numbers others

-- the nodes with this parent, in rising number; those with the parent 0 are the roots
abbrev pub children_of : List Node → ℕ → List ℕ
children_of nodes p = filter (λ v. parent_of_node nodes v == p) (range_with_len 1 (length nodes))

-- rows of numbers that are the children of each node, and row 0 the roots
pub record AreChildren (nodes : List Node) (rows : List (List ℕ)) : Type 0 where
  pub len : length rows ≡ length nodes + 1
  pub rows_are : (p : ℕ) → p ≤ length nodes → row_at rows p ≡ children_of nodes p

-- below each node stand the trees of its children
abbrev pub HasChildren : List Node → Forest → Type 0
HasChildren nodes no_trees = Unit {0}
HasChildren nodes (tree v children others) =
    (roots_of children ≡ children_of nodes v) × HasChildren nodes children × HasChildren nodes others

-- the forest of these nodes: the trees of the roots, and in each of them, below each node, the trees of its children; roots and
-- children in rising number
pub record IsForestOf (nodes : List Node) (f : Forest) : Type 0 where
  pub roots : roots_of f ≡ children_of nodes 0
  pub below : HasChildren nodes f
