use Rattle.std.proofs.Common.{◌≡◌, ℕ, length, take}
use Rattle.shared_systems.specs.Shared.{is_read_by_alone, is_made_by, shared_size_where}
use Rattle.activation.specs.Schedule.{task_entry}
use Rattle.activation.proofs.sums.sums_of.Given as goal

abbrev pub invariant-loop-i : goal.invariant-loop-i
invariant-loop-i l = record {
  inputs_len : length l.inputs.items ≡ length l.system.tasks;
  inputs : (t : ℕ) → task_entry l.inputs.items t ≡ shared_size_where (is_read_by_alone t) (take l.i l.items);
  outputs_len : length l.outputs.items ≡ length l.system.tasks;
  outputs : (t : ℕ) → task_entry l.outputs.items t ≡ shared_size_where (is_made_by t) (take l.i l.items);
}
