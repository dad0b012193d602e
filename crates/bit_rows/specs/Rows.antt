-- No public clause names this.
-- Rows of bits as the code holds them, in words.
use Rattle.std.specs.Prelude.{◌≡◌, ℕ, ◌+◌, ◌/◌, ◌^◌, ◌<◌, ◌≤◌, Bool, true, false, List, length, map}
use Rattle.std.specs.List.{range_with_len}
use Rattle.bit_rows.specs.Bits.{word_bit}

-- how many words a row of so many numbers takes
abbrev pub words_for : ℕ → ℕ
words_for len = (len + 63) / 64

abbrev pub bits_of : ℕ → List ℕ → List Bool
bits_of len words = map (word_bit words) (range_with_len 0 len)

-- the words of a row: the bits past its end are 0
pub record IsBitRow (len : ℕ) (words : List ℕ) : Type 0 where
  pub small : len ≤ 2 ^ 32
  pub long : length words ≡ words_for len
  pub past : (x : ℕ) → len ≤ x → word_bit words x ≡ false

-- the lowest bit of word k
pub record IsLowestIn (words : List ℕ) (k x : ℕ) : Type 0 where
  pub word : x / 64 ≡ k
  pub here : word_bit words x ≡ true
  pub first : (y : ℕ) → y < x → y / 64 ≡ k → word_bit words y ≡ false
