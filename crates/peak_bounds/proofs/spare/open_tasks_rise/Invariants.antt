use Rattle.std.proofs.Common.{◌≡◌, ℕ, ◌+◌, ◌<◌, ◌≤◌, false, pos}
use Rattle.std.specs.Prelude.{◌≤ℤ◌}
use Rattle.mp_system.specs.Replay.{is_marked}
use Rattle.peak_bounds.specs.Judging.{size_at}
use Rattle.peak_bounds.proofs.spare.open_tasks_rise.Given as goal

abbrev pub invariant-loop-i : goal.invariant-loop-i
invariant-loop-i l = (v : ℕ) → 1 ≤ v → v < l.i + 1 → is_marked l.done v ≡ false → is_marked l.waiting v ≡ false → pos 0 ≤ℤ size_at l.spare v
