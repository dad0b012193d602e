use Rattle.std.proofs.Common.{◌≡◌, ℕ, ◌-◌, ◌*◌, ◌<◌, ◌≤◌, ◌&&◌, IsTrue, false, length, get_or}
use Rattle.bit_rows.specs.Bits.{word_bit}
use Rattle.elimination.proofs.dense.lower_common.Given as goal

abbrev pub invariant-loop-k : goal.invariant-loop-k
invariant-loop-k l = record {
  len : length l.bounds ≡ length l.fn.bounds;
  common : (x : ℕ) → x < 64 * l.k → IsTrue (word_bit l.row x && word_bit l.other x) → get_or l.bounds x 0 ≡ get_or l.fn.bounds x 0 - 1;
  rest : (x : ℕ) → 64 * l.k ≤ x → get_or l.bounds x 0 ≡ get_or l.fn.bounds x 0;
  others : (x : ℕ) → (word_bit l.row x && word_bit l.other x) ≡ false → get_or l.bounds x 0 ≡ get_or l.fn.bounds x 0;
}
