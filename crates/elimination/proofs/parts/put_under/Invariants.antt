use Rattle.std.proofs.Common.{◌≡◌, ◌≢◌, ◌<◌, ℕ, [], length, get_or}
use Rattle.elimination.specs.Quotients.{at, inner_at}
use Rattle.elimination.proofs.parts.put_under.Given as goal

abbrev pub invariant-loop-part : goal.invariant-loop-part
invariant-loop-part l = record {
  len : length l.rims ≡ length l.fn.rims;
  under : (j : ℕ) → j < l.part-index → at l.links (get_or l.parts j 0) ≡ l.v;
  emptied : (j : ℕ) → j < l.part-index → inner_at l.rims (get_or l.parts j 0) ≡ [];
  others : (p : ℕ) → ((j : ℕ) → j < l.part-index → get_or l.parts j 0 ≢ p) → at l.links p ≡ at l.fn.links p;
  kept : (p : ℕ) → ((j : ℕ) → j < l.part-index → get_or l.parts j 0 ≢ p) → inner_at l.rims p ≡ inner_at l.fn.rims p;
}
