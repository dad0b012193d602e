use Rattle.trees.proofs.AscentLemmas.{LookedAt}
use Rattle.trees.proofs.roots.first_cycle_by.Given as goal

abbrev pub invariant-loop-i : goal.invariant-loop-i
invariant-loop-i l = LookedAt l.nodes l.marks l.i
