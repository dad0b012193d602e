use Rattle.std.proofs.Common.{ℕ, ◌<◌, ◌≤◌}
use Rattle.bound_check.specs.Failing.{PassesAtPlace}
use Rattle.bound_check.proofs.chunks.first_in.Given as goal

abbrev pub invariant-loop-i : goal.invariant-loop-i
invariant-loop-i l = (k : ℕ) → l.from ≤ k → k < l.i → PassesAtPlace l.view.positions l.claims k
