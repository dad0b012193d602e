use Rattle.std.proofs.Common.{ℕ, ◌+◌, ◌<◌, ◌≤◌}
use Rattle.shared_systems.specs.Judged.{PlacePasses}
use Rattle.shared_systems.proofs.passing.first_failing.Given as goal

abbrev pub invariant-loop-i : goal.invariant-loop-i
invariant-loop-i l = (k : ℕ) → 1 ≤ k → k < l.i + 1 → PlacePasses l.count l.items l.test k
