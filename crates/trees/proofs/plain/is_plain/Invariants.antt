use Rattle.std.proofs.Common.{ℕ, ◌+◌, ◌<◌, get_or}
use Rattle.trees.specs.declared.node.Node.{Node}
use Rattle.trees.specs.Plain.{IsPlainAt}
use Rattle.trees.proofs.plain.is_plain.Given as goal

abbrev pub invariant-loop-i : goal.invariant-loop-i
invariant-loop-i l = (k : ℕ) (d : Node) → k < l.i → IsPlainAt (k + 1) (get_or l.nodes k d)
