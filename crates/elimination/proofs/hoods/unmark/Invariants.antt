use Rattle.std.proofs.Common.{◌≡◌, ◌≢◌, ℕ, ◌<◌, get_or, false}
use Rattle.elimination.specs.Hoods.{mark_at}
use Rattle.elimination.proofs.hoods.unmark.Given as goal

abbrev pub invariant-loop-b : goal.invariant-loop-b
invariant-loop-b l = record {
  gone : (j : ℕ) → j < l.b-index → mark_at l.seen (get_or l.list j 0) ≡ false;
  others : (x : ℕ) → ((j : ℕ) → j < l.b-index → get_or l.list j 0 ≢ x) → mark_at l.seen x ≡ mark_at l.fn.seen x;
}
