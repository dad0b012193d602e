use Rattle.std.proofs.Common.{◌≡◌, ◌+◌, length, get_or}
use Rattle.shared_systems.specs.Shared.{SharedItem}
use Rattle.shared_systems.specs.Places.{last_if_any}
use Rattle.shared_systems.proofs.KeySums.{AreSums}
use Rattle.shared_systems.proofs.peak.freed_at.Given as goal

abbrev pub invariant-loop-i : goal.invariant-loop-i
invariant-loop-i l = record {
  len : length l.sums.items ≡ l.len + 1;
  sums : AreSums (λ (x : SharedItem). last_if_any (λ c. get_or l.places c 0) x.readers) l.items l.sums.items l.i;
}
