use Rattle.std.proofs.Common.{ℕ, ◌+◌, ◌<◌, ◌≤◌}
use Rattle.trees.specs.Tree.{NodeShareFits}
use Rattle.trees.proofs.shares.first_unfit.Given as goal

abbrev pub invariant-loop-i : goal.invariant-loop-i
invariant-loop-i l = (v : ℕ) → 1 ≤ v → v < l.i + 1 → NodeShareFits l.nodes v
