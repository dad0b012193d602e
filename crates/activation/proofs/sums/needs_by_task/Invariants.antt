use Rattle.std.proofs.Common.{◌≡◌, ℕ, ◌+◌, ◌<◌, ◌≤◌, length}
use Rattle.std.specs.Prelude.{slice_index}
use Rattle.shared_systems.specs.Shared.{own_inputs_of, shared_outputs_of, shared_need_of}
use Rattle.activation.proofs.sums.needs_by_task.Given as goal

abbrev pub invariant-loop-i : goal.invariant-loop-i
invariant-loop-i l = record {
  needs_len : length l.needs.items ≡ length l.system.tasks;
  frees_len : length l.frees.items ≡ length l.system.tasks;
  needs : (k : ℕ) → k < l.i → slice_index l.needs.items k ≡ shared_need_of l.system (k + 1);
  frees : (k : ℕ) → k < l.i
      → slice_index l.frees.items k + shared_outputs_of l.system (k + 1) ≡ shared_need_of l.system (k + 1) + own_inputs_of l.system (k + 1);
  outputs : (k : ℕ) → l.i ≤ k → slice_index l.needs.items k ≡ shared_outputs_of l.system (k + 1);
  inputs : (k : ℕ) → l.i ≤ k → slice_index l.frees.items k ≡ own_inputs_of l.system (k + 1);
}
