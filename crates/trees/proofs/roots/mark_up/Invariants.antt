use Rattle.std.specs.List.{count_by}
use Rattle.std.proofs.Common.{eqb}
use Rattle.trees.specs.Ascent.{IsAscent}
use Rattle.trees.proofs.roots.mark_up.Given as goal

abbrev pub invariant-loop-at : goal.invariant-loop-at
invariant-loop-at l = IsAscent l.nodes l.fn.marks l.marks l.from l.at

abbrev pub decreases-loop-at : goal.decreases-loop-at
decreases-loop-at l = count_by (λ m. eqb m 0) l.marks
