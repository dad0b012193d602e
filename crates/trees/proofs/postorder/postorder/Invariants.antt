use Rattle.std.proofs.Common.{◌-◌, List, length}
use Rattle.limits.specs.Limits.{most_tasks}
use Rattle.trees.specs.declared.node.Node.{Node}
use Rattle.trees.specs.Tree.{IsTree}
use Rattle.trees.specs.Forest.{AreChildren, Forest, IsForestOf}
use Rattle.trees.proofs.OrderLemmas.{IsWalk}
use Rattle.trees.proofs.postorder.postorder.Given as goal

abbrev pub invariant-loop-v : goal.invariant-loop-v
invariant-loop-v l = (nodes : List Node) (f : Forest) → IsTree nodes → IsForestOf nodes f
    → AreChildren nodes l.children → IsWalk nodes f l.pending.items l.found.items

abbrev pub decreases-loop-v : goal.decreases-loop-v
decreases-loop-v l = most_tasks - length l.found.items
