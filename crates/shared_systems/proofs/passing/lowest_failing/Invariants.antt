use Rattle.std.proofs.Common.{ℕ, ◌+◌, ◌<◌, ◌≤◌}
use Rattle.mp_system.specs.Judged.{TaskPasses}
use Rattle.shared_systems.proofs.passing.lowest_failing.Given as goal

abbrev pub invariant-loop-i : goal.invariant-loop-i
invariant-loop-i l = (v : ℕ) → 1 ≤ v → v < l.i + 1 → TaskPasses l.tasks l.test v
