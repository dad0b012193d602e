use Rattle.std.proofs.Common.{◌≡◌, ◌≢◌, ◌<◌, ℕ, get_or, length}
use Rattle.elimination.specs.Quotients.{at}
use Rattle.elimination.proofs.twins.set_ones.Given as goal

abbrev pub invariant-loop-x : goal.invariant-loop-x
invariant-loop-x l = record {
  len : length l.sizes ≡ length l.fn.sizes;
  ones : (j : ℕ) → j < l.x-index → at l.sizes (get_or l.list j 0) ≡ 1;
  others : (y : ℕ) → ((j : ℕ) → j < l.x-index → get_or l.list j 0 ≢ y) → at l.sizes y ≡ at l.fn.sizes y;
}
