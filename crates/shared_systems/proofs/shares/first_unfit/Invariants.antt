use Rattle.std.proofs.Common.{ℕ, ◌+◌, ◌<◌, ◌≤◌}
use Rattle.shared_systems.specs.Shared.{HasOwnShare}
use Rattle.shared_systems.proofs.shares.first_unfit.Given as goal

abbrev pub invariant-loop-i : goal.invariant-loop-i
invariant-loop-i l = (v : ℕ) → 1 ≤ v → v < l.i + 1 → HasOwnShare (record { tasks = l.tasks; items = l.items }) v
