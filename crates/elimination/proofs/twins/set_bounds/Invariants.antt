use Rattle.std.proofs.Common.{◌≡◌, ◌≢◌, ◌<◌, ℕ, get_or, length}
use Rattle.elimination.specs.Quotients.{at}
use Rattle.elimination.proofs.twins.set_bounds.Given as goal

abbrev pub invariant-loop-x : goal.invariant-loop-x
invariant-loop-x l = record {
  len : length l.bounds ≡ length l.fn.bounds;
  ones : (j : ℕ) → j < l.x-index → at l.bounds (get_or l.list j 0) ≡ l.bound;
  others : (y : ℕ) → ((j : ℕ) → j < l.x-index → get_or l.list j 0 ≢ y) → at l.bounds y ≡ at l.fn.bounds y;
}
