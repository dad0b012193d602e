use Rattle.std.proofs.Common.{ℕ, ◌+◌, ◌<◌, ◌≤◌}
use Rattle.graphs.specs.Graph.{TaskShareFits}
use Rattle.graphs.proofs.shares.first_unfit.Given as goal

abbrev pub invariant-loop-i : goal.invariant-loop-i
invariant-loop-i l = (v : ℕ) → 1 ≤ v → v < l.i + 1 → TaskShareFits l.tasks l.arcs v
