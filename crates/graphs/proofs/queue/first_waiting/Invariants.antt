use Rattle.std.proofs.Common.{ℕ, ◌<◌, ◌≤◌}
use Rattle.graphs.specs.Graph.{CanBeOrdered}
use Rattle.graphs.proofs.queue.first_waiting.Given as goal

abbrev pub invariant-loop-v : goal.invariant-loop-v
invariant-loop-v l = (w : ℕ) → 1 ≤ w → w < l.v → CanBeOrdered l.arcs w
