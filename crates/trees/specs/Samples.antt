-- Worked examples: a tree of five nodes, one of two nodes with a share, their systems, and forests and their terms.
use Rattle.std.specs.Prelude.{◌≡◌, ℕ, List, [], ◌∷◌, ◌++◌, Option, Some, None, refl}
use Rattle.mp_system.specs.declared.system.Task.{Task}
use Rattle.mp_system.specs.declared.system.Item.{Item}
use Rattle.sp_terms.specs.declared.position.Position.{Position}
use Rattle.sp_terms.specs.declared.position.Position.TheVariants.{Hold, Par}
use Rattle.sp_terms.specs.declared.position.Position.TheVariants as at
use Rattle.trees.specs.declared.node.Node.{Node}
use Rattle.trees.specs.Tree.{ancestor, children_out, system_of_nodes}
use Rattle.trees.specs.Forest.{Forest, no_trees, tree, all_numbers, IsForestOf}
use Rattle.trees.specs.TreeTerm.{forest_positions}

abbrev pub node : ℕ → ℕ → ℕ → ℕ → Node
node parent out extra share = record { parent = parent; out = out; extra = extra; share = share; time = 1 }

-- 5 has the children 2 and 4, which have the children 1 and 3
abbrev pub five : List Node
five = node 2 1 9 0 ∷ node 5 5 0 0 ∷ node 4 1 9 0 ∷ node 5 5 0 0 ∷ node 0 0 0 0 ∷ []

-- 2 takes over 4 from the block of its child
abbrev pub shared : List Node
shared = node 2 4 0 0 ∷ node 0 3 2 4 ∷ []

-- ---- ancestors, and the system

pub above : ancestor five 1 1 ∷ ancestor five 2 1 ∷ ancestor five 3 1 ∷ ancestor five 4 1 ∷ [] ≡ 2 ∷ 5 ∷ 0 ∷ 0 ∷ []
unfolding ancestor
above = refl

pub below : children_out five 5 ∷ children_out five 4 ∷ children_out five 3 ∷ [] ≡ 10 ∷ 1 ∷ 0 ∷ []
below = refl

abbrev pub task : ℕ → ℕ → Task
task extra share = record { extra = extra; share = share; time = 1 }

abbrev pub item : ℕ → ℕ → Option ℕ → Item
item size from to = record { size = size; from = Some from; to = to }

pub shared_system : system_of_nodes shared ≡ record { tasks = task 0 0 ∷ task 2 4 ∷ []; items = item 4 1 (Some 2) ∷ item 3 2 None ∷ [] }
shared_system = refl

-- ---- forests and their terms

abbrev pub leaf : ℕ → Forest → Forest
leaf v others = tree v no_trees others

abbrev pub five_forest : Forest
five_forest = tree 5 (tree 2 (leaf 1 no_trees) (tree 4 (leaf 3 no_trees) no_trees)) no_trees

pub five_stands : IsForestOf five five_forest
five_stands = record { roots = refl; below = (refl, (refl, (refl, tt, tt), (refl, (refl, tt, tt), tt)), tt) }

abbrev pub run : ℕ → Position
run extra = at.Task extra 0 1

abbrev pub branch : List Position
branch = Hold 0 ∷ Hold 1 ∷ run 9 ∷ Hold 5 ∷ run 0 ∷ []

pub five_term : forest_positions five five_forest ≡ branch ++ (branch ++ Par 2 ∷ Hold 0 ∷ run 0 ∷ [])
five_term = refl

pub five_names : all_numbers five_forest ≡ 1 ∷ 2 ∷ 3 ∷ 4 ∷ 5 ∷ []
five_names = refl

-- 3 has the children 1, 2 and 4, and 2 has the child 5
abbrev pub mixed : List Node
mixed = node 3 1 0 0 ∷ node 3 2 0 0 ∷ node 0 3 0 0 ∷ node 3 4 0 0 ∷ node 2 5 0 0 ∷ []

abbrev pub mixed_forest : Forest
mixed_forest = tree 3 (leaf 1 (tree 2 (leaf 5 no_trees) (leaf 4 no_trees))) no_trees

pub mixed_stands : IsForestOf mixed mixed_forest
mixed_stands = record { roots = refl; below = (refl, (refl, tt, (refl, (refl, tt, tt), (refl, tt, tt))), tt) }

pub mixed_names : all_numbers mixed_forest ≡ 1 ∷ 5 ∷ 2 ∷ 4 ∷ 3 ∷ []
mixed_names = refl

-- two roots, which stand side by side at the end
abbrev pub roots : List Node
roots = node 0 3 0 0 ∷ node 0 4 1 0 ∷ []

pub roots_term : forest_positions roots (leaf 1 (leaf 2 no_trees)) ≡ Hold 0 ∷ Hold 3 ∷ run 0 ∷ Hold 0 ∷ Hold 4 ∷ run 1 ∷ Par 2 ∷ []
roots_term = refl

-- a share is carried over
pub shared_term : forest_positions shared (tree 2 (leaf 1 no_trees) no_trees) ≡ Hold 0 ∷ Hold 4 ∷ run 0 ∷ Hold 3 ∷ at.Task 2 4 1 ∷ []
shared_term = refl
