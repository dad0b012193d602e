use Rattle.std.proofs.Common.{◌≡◌, ◌≢◌, ◌-◌, ◌<◌, ◌≤◌, ℕ, length, get_or}
use Rattle.elimination.specs.Quotients.{at}
use Rattle.elimination.proofs.bounds.lower.Given as goal

abbrev pub invariant-loop-w : goal.invariant-loop-w
invariant-loop-w l = record {
  len : length l.bounds ≡ length l.fn.bounds;
  fallen : (x : ℕ) → at l.bounds x ≤ at l.fn.bounds x;
  listed : (j : ℕ) → j < l.w-index → at l.bounds (get_or l.list j 0) ≤ at l.fn.bounds (get_or l.list j 0) - 1;
  others : (x : ℕ) → ((j : ℕ) → j < l.w-index → get_or l.list j 0 ≢ x) → at l.bounds x ≡ at l.fn.bounds x;
}
