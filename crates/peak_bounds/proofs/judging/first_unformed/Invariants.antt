use Rattle.std.proofs.Common.{ℕ, ◌+◌, ◌<◌, ◌≤◌}
use Rattle.peak_bounds.specs.Evidence.{Passes}
use Rattle.peak_bounds.specs.Judged.{test_of}
use Rattle.peak_bounds.proofs.judging.first_unformed.Given as goal

abbrev pub invariant-loop-i : goal.invariant-loop-i
invariant-loop-i l = (bound k : ℕ) → 1 ≤ k → k < l.i + 1 → Passes l.system l.set bound (test_of l.test) k
