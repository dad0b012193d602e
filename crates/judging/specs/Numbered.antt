-- The positions of a term that a report numbers: of its tasks, or of the nodes of a tree.
use Rattle.std.specs.Prelude.{◌≡◌, ◌==◌, ℕ, ◌+◌, if◌then◌else◌, List, []}
use Rattle.std.specs.Prelude.{◌∷◌, length, map}
use Rattle.std.specs.List.{range_with_len}
use Rattle.sp_terms.specs.declared.position.Position.{Position}
use Rattle.sp_terms.specs.declared.position.Position.TheVariants.{Hold, Par}
use Rattle.trees.specs.declared.node.Node.{Node}
use Rattle.trees.specs.Forest.{Forest, IsForestOf, all_numbers}
use Rattle.trees.specs.TreeTerm.{forest_positions}
use Rattle.requests.specs.Request.{Input, tree_input, workflow_named}
use Rattle.judging.specs.Files.{IsTreeOf, IsWorkflowFile}
use Rattle.sp_terms.specs.declared.position.Position.TheVariants as at

-- at which positions the tasks stand, in their order; the first of these positions has this number
abbrev pub task_positions : ℕ → List Position → List ℕ
task_positions k [] = []
task_positions k (Hold size ∷ ps) = task_positions (k + 1) ps
task_positions k (at.Task extra share time ∷ ps) = k ∷ task_positions (k + 1) ps
task_positions k (Par parts ∷ ps) = task_positions (k + 1) ps

-- the position of the task of this name; the names of the tasks and their positions are given in the same order. 0 where none has it
abbrev pub position_named : ℕ → List ℕ → List ℕ → ℕ
position_named v [] ks = 0
position_named v (name ∷ names) [] = 0
position_named v (name ∷ names) (k ∷ ks) = if name == v then k else position_named v names ks

-- the positions of the nodes 1, 2, .., each that of its task, by the nodes that the tasks are
abbrev pub node_positions : List ℕ → List Position → List ℕ
node_positions names ps = map (λ v. position_named v names (task_positions 1 ps)) (range_with_len 1 (length names))

-- the positions of an input's term, and those of them that the numbers 1, 2, .. of the report stand for: of a tree those of its nodes, of a
-- workflow all
abbrev pub IsNumberedTerm : Input → List (List ℕ) → List Position → List ℕ → Type 0
IsNumberedTerm (tree_input input) texts ps numbered =
    (nodes : List Node) × (forest : Forest) × IsTreeOf input texts nodes × IsForestOf nodes forest
    × (ps ≡ forest_positions nodes forest) × (numbered ≡ node_positions (all_numbers forest) ps)
IsNumberedTerm (workflow_named name) [] ps numbered = ⊥
IsNumberedTerm (workflow_named name) (text ∷ []) ps numbered = IsWorkflowFile text ps × (numbered ≡ range_with_len 1 (length ps))
IsNumberedTerm (workflow_named name) (text ∷ more ∷ texts) ps numbered = ⊥
