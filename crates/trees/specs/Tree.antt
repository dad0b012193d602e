-- Trees of nodes (assembly trees: Liu 1986, On the storage requirement in the out-of-core multifrontal method), and the system of a tree.
use Rattle.std.specs.Prelude.{◌≡◌, ◌==◌, ℕ, zero, suc, ◌+◌, ◌-◌, ◌≤◌, if◌then◌else◌, Some, None, All, List, [], ◌∷◌, length, map}
use Rattle.std.specs.Prelude.{slice_index_or}
use Rattle.std.specs.List.{sum_by}
use Rattle.limits.specs.Limits.{most_tasks, most_size, most_time, most_total}
use Rattle.mp_system.specs.declared.system.Task.{Task}
use Rattle.mp_system.specs.declared.system.Item.{Item}
use Rattle.mp_system.specs.System.{TaskSystem}
use Rattle.trees.specs.declared.node.Node.{Node}

-- v is the number of a node
abbrev pub IsNode : List Node → ℕ → Type 0
IsNode nodes v = (1 ≤ v) × (v ≤ length nodes)

-- the node with this number
abbrev pub node_at : List Node → ℕ → Node
node_at nodes v = slice_index_or nodes (v - 1) (record { parent = 0; out = 0; extra = 0; share = 0; time = 0 })

-- the parent of a node; 0 stands for none, and has none itself
abbrev pub parent_of_node : List Node → ℕ → ℕ
parent_of_node nodes zero = 0
parent_of_node nodes (suc i) = (node_at nodes (suc i)).parent

-- the node that is k parents above, 0 from above the root on
unfoldable pub ancestor : List Node → ℕ → ℕ → ℕ
ancestor nodes zero v = v
ancestor nodes (suc k) v = ancestor nodes k (parent_of_node nodes v)

-- the parents of a node lead to a root: as many steps up as there are nodes lead above it
abbrev pub LeadsToRoot : List Node → ℕ → Type 0
LeadsToRoot nodes v = ancestor nodes (length nodes) v ≡ 0

-- the outs of the children of a node, together
abbrev pub out_below : ℕ → Node → ℕ
out_below v node = if node.parent == v then node.out else 0

abbrev pub children_out : List Node → ℕ → ℕ
children_out nodes v = sum_by (out_below v) nodes

-- the share of a node is at most the outs of its children, and at most its extra and its out
abbrev pub NodeShareFits : List Node → ℕ → Type 0
NodeShareFits nodes v =
    ((node_at nodes v).share ≤ children_out nodes v) × ((node_at nodes v).share ≤ (node_at nodes v).extra + (node_at nodes v).out)

-- what each node keeps to
pub record IsNodeWithin (nodes : List Node) (node : Node) : Type 0 where
  pub parent : node.parent ≤ length nodes
  pub out : node.out ≤ most_size
  pub extra : node.extra ≤ most_size
  pub time : (1 ≤ node.time) × (node.time ≤ most_time)

abbrev pub node_size : Node → ℕ
node_size node = node.out + node.extra

-- a tree within the limits: 1 to 10^6 nodes whose parents lead to a root, each size and time at most 2^40, all sizes
-- together at most 2^60, and shares that fit
pub record IsTree (nodes : List Node) : Type 0 where
  pub some : 1 ≤ length nodes
  pub few : length nodes ≤ most_tasks
  pub each : All (IsNodeWithin nodes) nodes
  pub total : sum_by node_size nodes ≤ most_total
  pub roots : (v : ℕ) → IsNode nodes v → LeadsToRoot nodes v
  pub shares : (v : ℕ) → IsNode nodes v → NodeShareFits nodes v

-- the task of a node
abbrev pub task_of_node : Node → Task
task_of_node node = record { extra = node.extra; share = node.share; time = node.time }

-- the item of node v: v produces it, and the parent of v, if v has one, consumes it
abbrev pub item_of_node : ℕ → Node → Item
item_of_node v node = record { size = node.out; from = Some v; to = if node.parent == 0 then None else Some node.parent }

abbrev pub items_from : ℕ → List Node → List Item
items_from v [] = []
items_from v (node ∷ nodes) = item_of_node v node ∷ items_from (v + 1) nodes

-- the system of a tree: one task and one item for each node
abbrev pub system_of_nodes : List Node → TaskSystem
system_of_nodes nodes = record { tasks = map task_of_node nodes; items = items_from 1 nodes }
