use Rattle.std.proofs.Common.{◌≡◌, ℕ, length, take}
use Rattle.mp_system.specs.Memory.{stands_in}
use Rattle.mp_system.specs.Replay.{is_marked}
use Rattle.peak_bounds.proofs.marks.marked.Given as goal

abbrev pub invariant-loop-task : goal.invariant-loop-task
invariant-loop-task l = record {
  len : length l.marks.items ≡ l.count;
  marks : (v : ℕ) → is_marked l.marks.items v ≡ stands_in (take l.task-index l.tasks) v;
}
