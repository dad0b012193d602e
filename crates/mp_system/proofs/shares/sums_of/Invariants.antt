use Rattle.std.proofs.Common.{◌≡◌, length, vec_len}
use Rattle.mp_system.proofs.GivenSums.{AreSums, consumer, producer}
use Rattle.mp_system.proofs.shares.sums_of.Given as goal

abbrev pub invariant-loop-item : goal.invariant-loop-item
invariant-loop-item l = record {
  inputs_len : vec_len l.inputs ≡ length l.tasks;
  outputs_len : vec_len l.outputs ≡ length l.tasks;
  inputs : AreSums consumer (length l.tasks) l.items l.inputs.items l.item-index;
  outputs : AreSums producer (length l.tasks) l.items l.outputs.items l.item-index;
}
