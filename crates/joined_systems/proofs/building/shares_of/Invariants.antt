use Rattle.std.proofs.Common.{◌≡◌, ◌+◌, length, Some}
use Rattle.shared_systems.specs.Shared.{SharedItem}
use Rattle.shared_systems.proofs.KeySums.{AreSums}
use Rattle.joined_systems.specs.Joined.{join_between}
use Rattle.joined_systems.proofs.building.shares_of.Given as goal

abbrev pub invariant-loop-i : goal.invariant-loop-i
invariant-loop-i l = record {
  len : length l.shares.items ≡ l.count + 1;
  sums : AreSums (λ (x : SharedItem). Some (join_between l.joins x.from x.readers)) l.items l.shares.items l.i;
}
