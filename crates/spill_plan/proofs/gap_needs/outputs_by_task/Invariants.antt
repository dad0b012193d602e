use Rattle.std.proofs.Common.{◌≡◌, ◌+◌, length}
use Rattle.shared_systems.specs.Shared.{SharedItem}
use Rattle.shared_systems.proofs.KeySums.{AreSums}
use Rattle.spill_plan.proofs.gap_needs.outputs_by_task.Given as goal

abbrev pub invariant-loop-i : goal.invariant-loop-i
invariant-loop-i l = record {
  len : length l.sums.items ≡ length l.system.tasks + 1;
  sums : AreSums (λ (x : SharedItem). x.from) l.system.items l.sums.items l.i;
}
