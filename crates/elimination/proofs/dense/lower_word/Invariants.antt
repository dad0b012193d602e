use Rattle.std.proofs.Common.{◌≡◌, ◌≢◌, ℕ, ◌+◌, ◌-◌, ◌<◌, ◌^◌, length, get_or}
use Rattle.std.specs.Int.{bit_at}
use Rattle.elimination.proofs.dense.lower_word.Given as goal

abbrev pub invariant-bits : goal.invariant-bits
invariant-bits l = record {
  len : length l.bounds ≡ length l.fn.bounds;
  fits : l.left < 2 ^ 64;
  within : (i : ℕ) → i < 64 → bit_at l.left i ≡ 1 → bit_at l.word i ≡ 1;
  had : (i : ℕ) → i < 64 → bit_at l.word i ≡ 1 → bit_at l.left i ≢ 1
      → get_or l.bounds (l.first + i) 0 ≡ get_or l.fn.bounds (l.first + i) 0 - 1;
  still : (i : ℕ) → i < 64 → bit_at l.left i ≡ 1 → get_or l.bounds (l.first + i) 0 ≡ get_or l.fn.bounds (l.first + i) 0;
  others : (x : ℕ) → ((i : ℕ) → i < 64 → x ≡ l.first + i → bit_at l.word i ≢ 1) → get_or l.bounds x 0 ≡ get_or l.fn.bounds x 0;
}

abbrev pub decreases-bits : goal.decreases-bits
decreases-bits l = l.left
