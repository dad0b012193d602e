use Rattle.std.proofs.Common.{ℕ, ◌+◌, ◌<◌, ◌≤◌}
use Rattle.trees.specs.Judged.{NodePasses}
use Rattle.trees.proofs.judged.judge_each.Given as goal

abbrev pub invariant-loop-i : goal.invariant-loop-i
invariant-loop-i l = (v : ℕ) → 1 ≤ v → v < l.i + 1 → NodePasses l.nodes l.test v
