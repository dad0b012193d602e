use Rattle.std.proofs.Common.{◌≡◌, ◌⊎◌, ℕ, ◌<◌, get_or, length, IsTrue}
use Rattle.bit_rows.specs.Bits.{bit_in}
use Rattle.elimination.specs.Switch.{IsNumberIn}
use Rattle.elimination.proofs.switch.set_numbers.Given as goal

abbrev pub invariant-loop-x : goal.invariant-loop-x
invariant-loop-x l = record {
  len : length l.row ≡ length l.fn.row;
  kept : (y : ℕ) → IsTrue (bit_in l.fn.row y) → IsTrue (bit_in l.row y);
  from : (y : ℕ) → IsTrue (bit_in l.row y) → IsTrue (bit_in l.fn.row y) ⊎ IsNumberIn l.numbers l.list y;
  to : (j : ℕ) → j < l.x-index → IsTrue (bit_in l.row (get_or l.numbers (get_or l.list j 0) 0));
}
