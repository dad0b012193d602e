use Rattle.std.proofs.Common.{ℕ, ◌+◌, ◌<◌, ◌≤◌}
use Rattle.patterns.specs.Columns.{RowFits}
use Rattle.patterns.proofs.columns.judge_rows.Given as goal

abbrev pub invariant-loop-i : goal.invariant-loop-i
invariant-loop-i l = (k : ℕ) → 1 ≤ k → k < l.i + 1 → RowFits l.base l.starts l.rows k
