use Rattle.std.proofs.Common.{◌≡◌, vec_len, length}
use Rattle.mp_system.proofs.Sums.{AreSums}
use Rattle.mp_system.proofs.outputs.output_sums.Given as goal

abbrev pub invariant-loop-item : goal.invariant-loop-item
invariant-loop-item l = record {
  len : vec_len l.sums ≡ length l.system.tasks;
  sums : AreSums l.sums.items l.item-items (length l.system.tasks) l.item-index;
}
