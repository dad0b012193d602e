-- Nodes that a caller gives: the tests that make them a tree, in their order, and what they are refused with.
use Rattle.std.specs.Prelude.{◌≡◌, ℕ, ◌<◌, ◌≤◌, All, List, length}
use Rattle.std.specs.List.{sum_by}
use Rattle.limits.specs.Limits.{most_tasks, most_size, most_time, most_total}
use Rattle.trees.specs.Tree.{IsNode, IsNodeWithin, LeadsToRoot, NodeShareFits, node_at, node_size}
use Rattle.lists.specs.Numbers.{IsFirstWithout}
use Rattle.trees.specs.declared.node.Node.{Node}
use Rattle.trees.specs.declared.faults.TreeFault.{TreeFault}
use Rattle.trees.specs.declared.faults.TreeFault.TheVariants as faults
use Rattle.trees.specs.declared.judged.NodeTest.{NodeTest}
use Rattle.trees.specs.declared.judged.NodeTest.TheVariants as tests
use Rattle.trees.specs.declared.judged.NodesRefusal.{NodesRefusal}
use Rattle.trees.specs.declared.judged.NodesRefusal.TheVariants as refusals

-- node v passes a test: the parent is a node or 0, there is a time, the sizes and the time are within the limits
abbrev pub NodePasses : List Node → NodeTest → ℕ → Type 0
NodePasses nodes tests.Parent v = (node_at nodes v).parent ≤ length nodes
NodePasses nodes tests.Time v = 1 ≤ (node_at nodes v).time
NodePasses nodes tests.Size v = ((node_at nodes v).out ≤ most_size) × ((node_at nodes v).extra ≤ most_size)
NodePasses nodes tests.LongTime v = (node_at nodes v).time ≤ most_time

-- each node passes it
abbrev pub AllPass : List Node → NodeTest → Type 0
AllPass nodes test = (v : ℕ) → IsNode nodes v → NodePasses nodes test v

-- each node passes the tests before this one
abbrev pub PassBefore : List Node → NodeTest → Type 0
PassBefore nodes tests.Parent = Unit {0}
PassBefore nodes tests.Time = AllPass nodes tests.Parent
PassBefore nodes tests.Size = AllPass nodes tests.Parent × AllPass nodes tests.Time
PassBefore nodes tests.LongTime = AllPass nodes tests.Parent × AllPass nodes tests.Time × AllPass nodes tests.Size

-- there are 1 to 10^6 nodes
abbrev pub AreCounted : List Node → Type 0
AreCounted nodes = (1 ≤ length nodes) × (length nodes ≤ most_tasks)

-- so many nodes, of which each passes all four tests
pub record PassAll (nodes : List Node) : Type 0 where
  pub counted : AreCounted nodes
  pub each : (test : NodeTest) → AllPass nodes test

abbrev pub HasTotal : List Node → Type 0
HasTotal nodes = sum_by node_size nodes ≤ most_total

abbrev pub AllLead : List Node → Type 0
AllLead nodes = (v : ℕ) → IsNode nodes v → LeadsToRoot nodes v

-- nodes that are within the limits, each and together: what is left to judge is where their parents lead, and their shares
pub record AreNodesWithin (nodes : List Node) : Type 0 where
  pub some : 1 ≤ length nodes
  pub few : length nodes ≤ most_tasks
  pub each : All (IsNodeWithin nodes) nodes
  pub total : HasTotal nodes

-- the lowest node whose parents lead to no root; or all lead to roots, and it is the lowest whose share does not fit
abbrev pub IsTreeFault : List Node → TreeFault → Type 0
IsTreeFault nodes (faults.Cycle v) = IsFirstWithout (length nodes) (LeadsToRoot nodes) v
IsTreeFault nodes (faults.Share v) = AllLead nodes × IsFirstWithout (length nodes) (NodeShareFits nodes) v

-- the first test that fails, with the lowest node that fails it; want of memory tells nothing
abbrev pub IsNodesRefusal : List Node → NodesRefusal → Type 0
IsNodesRefusal nodes refusals.NoNode = length nodes ≡ 0
IsNodesRefusal nodes refusals.ManyNodes = most_tasks < length nodes
IsNodesRefusal nodes (refusals.Node test v) =
    AreCounted nodes × PassBefore nodes test × IsFirstWithout (length nodes) (NodePasses nodes test) v
IsNodesRefusal nodes refusals.Total = PassAll nodes × (most_total < sum_by node_size nodes)
IsNodesRefusal nodes (refusals.Cycle v) = PassAll nodes × HasTotal nodes × IsFirstWithout (length nodes) (LeadsToRoot nodes) v
IsNodesRefusal nodes (refusals.Share v) =
    PassAll nodes × HasTotal nodes × AllLead nodes × IsFirstWithout (length nodes) (NodeShareFits nodes) v
IsNodesRefusal nodes refusals.NoMemory = Unit {0}
