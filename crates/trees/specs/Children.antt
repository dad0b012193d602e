-- No public clause names this.
-- The parents of nodes in a list, and the positions of nodes one after another.
use Rattle.std.specs.Prelude.{ℕ, List, [], ◌∷◌, ◌++◌, length}
use Rattle.sp_terms.specs.declared.position.Position.{Position}
use Rattle.trees.specs.declared.node.Node.{Node}
use Rattle.trees.specs.Forest.{children_of}
use Rattle.trees.specs.TreeTerm.{beside_positions, own_positions}

abbrev pub parent_in : Node → ℕ
parent_in node = node.parent

-- the positions of each node in turn, after its children's
abbrev pub positions_of : List Node → List ℕ → List Position
positions_of nodes [] = []
positions_of nodes (v ∷ vs) = (beside_positions (length (children_of nodes v)) ++ own_positions nodes v) ++ positions_of nodes vs
