use Rattle.std.proofs.Common.{◌≡◌, ◌+◌, ◌<◌, ◌≤◌, ℕ, length}
use Rattle.patterns.specs.Pattern.{neighbours_of}
use Rattle.min_tree.specs.Least.{greatest}
use Rattle.elimination.specs.Quotients.{at}
use Rattle.elimination.proofs.search.first_bounds.Given as goal

abbrev pub invariant-loop-w : goal.invariant-loop-w
invariant-loop-w l = record {
  len : length l.bounds ≡ length l.pattern + 1;
  exact : (x : ℕ) → 1 ≤ x → x < l.w → at l.bounds x ≡ length (neighbours_of l.pattern x);
  unused : at l.bounds 0 ≡ greatest;
}
