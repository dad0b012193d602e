use Rattle.std.proofs.Common.{◌≡◌, ℕ, ◌+◌, ◌<◌, IsTrue, get_or, length}
use Rattle.elimination.specs.Elimination.{IsVertex}
use Rattle.elimination.specs.Quotients.{Quotient, at}
use Rattle.elimination.specs.Tables.{tables, AllHaveLength}
use Rattle.bit_rows.specs.Bits.{bit_in}
use Rattle.elimination.specs.Dense.{IsFilling}
use Rattle.elimination.specs.Switch.{stage_at, CanFill}
use Rattle.elimination.proofs.search.Search.to_dense.Given as goal

abbrev pub invariant-loop-v : goal.invariant-loop-v
invariant-loop-v l = record {
  lengths : AllHaveLength (length l.pattern + 1) l.self;
  turns : l.self.turns ≡ l.fn.self.turns;
  stands : (q : Quotient) → CanFill l.pattern q (tables l.fn.self) → CanFill l.pattern q (tables l.self);
  filling : (q : Quotient) → CanFill l.pattern q (tables l.fn.self) → IsFilling (stage_at q.left l.vertices.items) l.search;
  passed : (q : Quotient) → CanFill l.pattern q (tables l.fn.self) → (x : ℕ) → IsVertex q.order x → at l.fn.self.turns.items x ≡ 0
      → q.rep x < l.v → IsTrue (bit_in l.search.alive (get_or l.numbers.items x 0));
}
