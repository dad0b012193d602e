use Rattle.std.proofs.Common.{ℕ, ◌+◌, ◌<◌, ◌≤◌}
use Rattle.patterns.specs.Columns.{StartFits}
use Rattle.patterns.proofs.columns.judge_starts.Given as goal

abbrev pub invariant-loop-i : goal.invariant-loop-i
invariant-loop-i l = (k : ℕ) → 1 ≤ k → k < l.i + 1 → StartFits l.base l.starts k
