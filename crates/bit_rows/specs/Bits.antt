-- Sets of numbers below a bound, as rows of bits: for each number whether it is in.
use Rattle.std.specs.Prelude.{◌≡◌, ◌==◌, ℕ, ◌/◌, ◌%◌, ◌<◌, Bool, true, false, List, length, slice_index, slice_index_or}
use Rattle.std.specs.Int.{bit_at}

-- whether a number is in; past its end a row has none
abbrev pub bit_in : List Bool → ℕ → Bool
bit_in row x = slice_index_or row x false

-- the first number that is in
pub record IsFirstIn (row : List Bool) (x : ℕ) : Type 0 where
  pub within : x < length row
  pub here : bit_in row x ≡ true
  pub first : (y : ℕ) → y < x → bit_in row y ≡ false

-- numbers stand 64 to a word, and x in the word x / 64: none of those of word k is in
abbrev pub IsNoneInWord : List Bool → ℕ → Type 0
IsNoneInWord row k = (x : ℕ) → x / 64 ≡ k → bit_in row x ≡ false

-- some is
abbrev pub IsSomeInWord : List Bool → ℕ → Type 0
IsSomeInWord row k = (x : ℕ) × (x / 64 ≡ k) × (bit_in row x ≡ true)

-- the first of them that is in
pub record IsFirstInWord (row : List Bool) (k x : ℕ) : Type 0 where
  pub word : x / 64 ≡ k
  pub here : bit_in row x ≡ true
  pub first : (y : ℕ) → y < x → y / 64 ≡ k → bit_in row y ≡ false

-- whether words have the bit of x, the lowest bit of a word first
unfoldable pub word_bit : List ℕ → ℕ → Bool
word_bit words x = bit_at (slice_index words (x / 64)) (x % 64) == 1
