use Rattle.std.proofs.Common.{◌≡◌, take}
use Rattle.trees.specs.Tree.{items_from}
use Rattle.trees.proofs.system.items_of.Given as goal

abbrev pub invariant-loop-i : goal.invariant-loop-i
invariant-loop-i l = l.items.items ≡ items_from 1 (take l.i l.nodes)
