use Rattle.std.proofs.Common.{◌≡◌, ◌+◌, length}
use Rattle.shared_systems.specs.Shared.{SharedItem}
use Rattle.shared_systems.proofs.KeySums.{AreSums}
use Rattle.state_search.proofs.needs.outputs_of.Given as goal

abbrev pub invariant-loop-i : goal.invariant-loop-i
invariant-loop-i l =
    record { len : length l.sums.items ≡ l.count + 1; sums : AreSums (λ (x : SharedItem). x.from) l.items l.sums.items l.i }
