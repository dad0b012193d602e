use Rattle.std.proofs.Common.{◌≡◌, ◌⊎◌, ℕ, ◌<◌, get_or, length, IsTrue}
use Rattle.patterns.specs.Pattern.{has}
use Rattle.bit_rows.specs.Bits.{bit_in}
use Rattle.elimination.specs.Dense.{row_of}
use Rattle.elimination.proofs.dense.unite_open.Given as goal

abbrev pub invariant-loop-p : goal.invariant-loop-p
invariant-loop-p l = record {
  len : length l.row ≡ length l.fn.row;
  kept : (x : ℕ) → IsTrue (bit_in l.fn.row x) → IsTrue (bit_in l.row x);
  from : (x : ℕ) → IsTrue (bit_in l.row x) → IsTrue (bit_in l.fn.row x)
      ⊎ ((p : ℕ) × IsTrue (has l.pivots p) × IsTrue (bit_in (row_of l.rows p) l.v) × IsTrue (bit_in (row_of l.rows p) x));
  to : (j x : ℕ) → j < l.p-index → IsTrue (bit_in (row_of l.rows (get_or l.pivots j 0)) l.v)
      → IsTrue (bit_in (row_of l.rows (get_or l.pivots j 0)) x)
      → IsTrue (bit_in l.row x);
}
