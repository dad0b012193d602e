use Rattle.std.proofs.Common.{◌≡◌, ◌+◌, length}
use Rattle.shared_systems.specs.Shared.{SharedItem}
use Rattle.shared_systems.proofs.KeySums.{AreSums}
use Rattle.peak_bounds.proofs.needs.made_by_each.Given as goal

abbrev pub invariant-loop-i : goal.invariant-loop-i
invariant-loop-i l = record {
  len : length l.made.items ≡ length l.system.tasks + 1;
  sums : AreSums (λ (x : SharedItem). x.from) l.items l.made.items l.i;
}
