use Rattle.std.proofs.Common.{◌≡◌, ℕ, ◌+◌, ◌<◌, ◌≤◌, length}
use Rattle.std.specs.Prelude.{slice_index}
use Rattle.shared_systems.specs.Shared.{shared_outputs_of, shared_need_of}
use Rattle.peak_bounds.proofs.needs.all_needs.Given as goal

abbrev pub invariant-loop-i : goal.invariant-loop-i
invariant-loop-i l = record {
  len : length l.needs.items ≡ length l.system.tasks + 1;
  needs : (v : ℕ) → 1 ≤ v → v ≤ l.i → slice_index l.needs.items v ≡ shared_need_of l.system v;
  made : (v : ℕ) → l.i < v → slice_index l.needs.items v ≡ shared_outputs_of l.system v;
}
