use Rattle.std.proofs.Common.{ℕ, ◌+◌, ◌<◌, ◌≤◌}
use Rattle.lists.specs.Numbers.{number_at}
use Rattle.permutations.specs.Perm.{IsVertex}
use Rattle.equivalent_orders.proofs.arrays.first_without.Given as goal

abbrev pub invariant-loop-i : goal.invariant-loop-i
invariant-loop-i l = (k : ℕ) → 1 ≤ k → k < l.i + 1 → IsVertex l.count (number_at l.front_of k)
