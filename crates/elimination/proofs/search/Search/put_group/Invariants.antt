use Rattle.std.proofs.Common.{◌≡◌, ℕ, ◌<◌, List, IsTrue, get_or}
use Rattle.elimination.specs.Quotients.{Quotient, at}
use Rattle.elimination.specs.Tables.{tables}
use Rattle.elimination.specs.Turns.{IsReleased}
use Rattle.bit_rows.specs.Bits.{bit_in}
use Rattle.elimination.specs.Dense.{IsFullRow, IsFilling}
use Rattle.elimination.specs.Switch.{stage_at, AreNumbers}
use Rattle.elimination.proofs.search.Search.put_group.Given as goal

abbrev pub invariant-loop-x : goal.invariant-loop-x
invariant-loop-x l = record {
  order : l.dense.order ≡ l.fn.dense.order;
  filling : (q : Quotient) (vertices : List ℕ) → IsReleased q (tables l.self) l.v
      → AreNumbers (at l.self.turns.items) q.order vertices l.numbers → IsFilling (stage_at q.left vertices) l.fn.dense
      → IsFullRow (stage_at q.left vertices) (get_or l.numbers l.v 0) l.fn.row → IsFilling (stage_at q.left vertices) l.dense;
  kept : (y : ℕ) → IsTrue (bit_in l.fn.dense.alive y) → IsTrue (bit_in l.dense.alive y);
  group : (j : ℕ) → j < l.x-index → IsTrue (bit_in l.dense.alive (get_or l.numbers (get_or l.x-items j 0) 0));
}
