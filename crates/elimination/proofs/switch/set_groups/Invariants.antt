use Rattle.std.proofs.Common.{◌≡◌, ◌⊎◌, ℕ, ◌<◌, get_or, length, IsTrue}
use Rattle.patterns.specs.Pattern.{has}
use Rattle.elimination.specs.Quotients.{inner_at}
use Rattle.bit_rows.specs.Bits.{bit_in}
use Rattle.elimination.specs.Switch.{IsNumberInGroups}
use Rattle.elimination.proofs.switch.set_groups.Given as goal

abbrev pub invariant-loop-r : goal.invariant-loop-r
invariant-loop-r l = record {
  len : length l.row ≡ length l.fn.row;
  kept : (y : ℕ) → IsTrue (bit_in l.fn.row y) → IsTrue (bit_in l.row y);
  from : (y : ℕ) → IsTrue (bit_in l.row y) → IsTrue (bit_in l.fn.row y) ⊎ IsNumberInGroups l.numbers (inner_at l.groups) l.list y;
  to : (j x : ℕ) → j < l.r-index → IsTrue (has (inner_at l.groups (get_or l.list j 0)) x)
      → IsTrue (bit_in l.row (get_or l.numbers x 0));
}
