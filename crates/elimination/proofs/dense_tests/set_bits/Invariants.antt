use Rattle.std.proofs.Common.{◌≡◌, ◌||◌, ℕ, length, take}
use Rattle.patterns.specs.Pattern.{has}
use Rattle.bit_rows.specs.Bits.{bit_in}
use Rattle.elimination.proofs.dense_tests.set_bits.Given as goal

abbrev pub invariant-loop-x : goal.invariant-loop-x
invariant-loop-x l = record {
  len : length l.row ≡ length l.fn.row;
  bits : (y : ℕ) → bit_in l.row y ≡ (bit_in l.fn.row y || has (take l.x-index l.list) y);
}
