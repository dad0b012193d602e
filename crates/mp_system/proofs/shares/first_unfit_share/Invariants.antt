use Rattle.std.proofs.Common.{ℕ, ◌+◌, ◌<◌, ◌≤◌}
use Rattle.mp_system.specs.System.{HasShare}
use Rattle.mp_system.specs.Given.{system_given}
use Rattle.mp_system.proofs.shares.first_unfit_share.Given as goal

abbrev pub invariant-loop-i : goal.invariant-loop-i
invariant-loop-i l = (v : ℕ) → 1 ≤ v → v < l.i + 1 → HasShare (system_given l.tasks l.items) v
