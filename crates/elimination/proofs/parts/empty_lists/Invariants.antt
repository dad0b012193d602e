use Rattle.std.proofs.Common.{◌≡◌, ◌≤◌, ℕ, [], length}
use Rattle.elimination.specs.Quotients.{inner_at}
use Rattle.elimination.proofs.parts.empty_lists.Given as goal

abbrev pub invariant-loop : goal.invariant-loop
invariant-loop l = record {
  len : length l.lists.items ≡ l.counter;
  within : l.counter ≤ l.count;
  empty : (p : ℕ)
      → inner_at l.lists.items p ≡ [];
}
