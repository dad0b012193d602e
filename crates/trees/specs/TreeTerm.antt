-- The term of a tree: a workflow with the tree's system (Liu 1986 for the tree; series-parallel composition as in Valdes, Tarjan and
-- Lawler 1982).
use Rattle.std.specs.Prelude.{ℕ, zero, suc, List, [], ◌∷◌, ◌++◌, length}
use Rattle.sp_terms.specs.declared.position.Position.{Position}
use Rattle.sp_terms.specs.declared.position.Position.TheVariants.{Hold, Par}
use Rattle.sp_terms.specs.Postfix.{at_task}
use Rattle.trees.specs.declared.node.Node.{Node}
use Rattle.trees.specs.Tree.{node_at, task_of_node}
use Rattle.trees.specs.Forest.{Forest, no_trees, tree, roots_of}

-- sets so many terms side by side: `data 0` stands for none, and one stays as it is
abbrev pub beside_positions : ℕ → List Position
beside_positions zero = Hold 0 ∷ []
beside_positions (suc zero) = []
beside_positions (suc (suc k)) = Par (suc (suc k)) ∷ []

-- the block of a node, and its task
abbrev pub own_positions : List Node → ℕ → List Position
own_positions nodes v = Hold (node_at nodes v).out ∷ (at_task (task_of_node (node_at nodes v)) ∷ [])

-- the terms of the trees one after the other: for each the terms of the children side by side, then the block and the task of the node
abbrev pub tree_positions : List Node → Forest → List Position
tree_positions nodes no_trees = []
tree_positions nodes (tree v children others) =
    ((tree_positions nodes children ++ beside_positions (length (roots_of children))) ++ own_positions nodes v)
    ++ tree_positions nodes others

-- the term of the forest: those of its trees side by side
abbrev pub forest_positions : List Node → Forest → List Position
forest_positions nodes f = tree_positions nodes f ++ beside_positions (length (roots_of f))
