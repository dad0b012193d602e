-- Bits in words: what a write leaves, and which is the lowest.
use Rattle.std.proofs.Common.{◌≡◌, ◌≢◌, ℕ, zero, suc, ◌+◌, ◌*◌, ◌/◌, ◌%◌, ◌^◌, ◌<◌, ◌≤◌, inl, inr, Bool, true, false, ◌&&◌, ◌||◌, eqb}
use Rattle.std.proofs.Common.{min, max, List, length, get_or, set, replicate, refl, sym, ap, ◌∙◌, arith, bit_and, bit_or, w64}
use Rattle.std.specs.Int.{bit_at, bit_not, trailing_zeros}
use Rattle.std.proofs.lemmas.Bool.{cases_eq, cases_lt, or_from, both_ways}
use Rattle.std.proofs.lemmas.List.{get_or_past, get_or-set_same, get_or-set_other, get_or-replicate, length-replicate}
use Rattle.std.proofs.lemmas.Nat.Bits.{bit_at-zero, bit_at-lt, bit_at_and, bit_at_or, bit_at_set_same, bit_at_set_other}
use Rattle.std.proofs.lemmas.Nat.Bits.{bit_at_clear_same, bit_at_clear_other, bit_at-trailing_zeros}
use Rattle.bit_rows.specs.Bits.{word_bit}
use Rattle.bit_rows.specs.Rows.{IsLowestIn}

-- whether a word has the bit at a place
abbrev pub word_has : ℕ → ℕ → Bool
word_has w i = eqb (bit_at w i) 1

pub bit_is : (row : List ℕ) (x : ℕ) → word_bit row x ≡ word_has (get_or row (x / 64) 0) (x % 64)
unfolding word_bit
bit_is row x = refl

-- a word that is 0 has no bit
pub bit_of_none : (row : List ℕ) (x : ℕ) → get_or row (x / 64) 0 ≡ 0 → word_bit row x ≡ false
bit_of_none row x e = bit_is row x ∙ ap (λ w. word_has w (x % 64)) e ∙ ap (λ z. eqb z 1) (bit_at-zero (x % 64))

max_is : (a b : ℕ) → a < 2 → b < 2 → eqb (max a b) 1 ≡ (eqb a 1 || eqb b 1)
max_is zero zero la lb = refl
max_is zero (suc zero) la lb = refl
max_is (suc zero) zero la lb = refl
max_is (suc zero) (suc zero) la lb = refl
max_is (suc (suc a)) b la lb = absurd (omega arith)
max_is zero (suc (suc b)) la lb = absurd (omega arith)
max_is (suc zero) (suc (suc b)) la lb = absurd (omega arith)

min_is : (a b : ℕ) → a < 2 → b < 2 → eqb (min a b) 1 ≡ (eqb a 1 && eqb b 1)
min_is zero zero la lb = refl
min_is zero (suc zero) la lb = refl
min_is (suc zero) zero la lb = refl
min_is (suc zero) (suc zero) la lb = refl
min_is (suc (suc a)) b la lb = absurd (omega arith)
min_is zero (suc (suc b)) la lb = absurd (omega arith)
min_is (suc zero) (suc (suc b)) la lb = absurd (omega arith)

pub word_or : (a b i : ℕ) → word_has (bit_or a b) i ≡ (word_has a i || word_has b i)
word_or a b i = ap (λ z. eqb z 1) (bit_at_or a b i) ∙ max_is (bit_at a i) (bit_at b i) (bit_at-lt a i) (bit_at-lt b i)

pub word_and : (a b i : ℕ) → word_has (bit_and a b) i ≡ (word_has a i && word_has b i)
word_and a b i = ap (λ z. eqb z 1) (bit_at_and a b i) ∙ min_is (bit_at a i) (bit_at b i) (bit_at-lt a i) (bit_at-lt b i)

pub bit_past : (row : List ℕ) (x : ℕ) → length row ≤ x / 64 → word_bit row x ≡ false
bit_past row x le = bit_is row x ∙ ap (λ w. word_has w (x % 64)) (get_or_past row (x / 64) 0 le) ∙ ap (λ z. eqb z 1) (bit_at-zero (x % 64))

pub word_within : (row : List ℕ) (x : ℕ) → word_bit row x ≡ true → x / 64 < length row
word_within row x t = elim (cases_lt (x / 64) (length row)) [ inl lt ↦ lt | inr le ↦ absurd (both_ways _ (bit_past row x le) t) ]

pub word_zeros : (n k : ℕ) → ◌≡◌ {A = ℕ} (get_or (replicate n 0) k 0) 0
word_zeros n k =
    let len = length-replicate {A = ℕ} n 0 in
    elim (cases_lt k n) [
      | inl lt ↦ get_or-replicate n k 0 0 lt
      | inr le ↦ get_or_past (replicate n 0) k 0 (omega arith)
    ]

pub bit_zeros : (n x : ℕ) → word_bit (replicate n 0) x ≡ false
bit_zeros n x = bit_of_none (replicate n 0) x (word_zeros n (x / 64))

-- a word with one bit written anew
module _ (row : List ℕ) (x w : ℕ) (lt : x / 64 < length row) where
  same_place : (b : Bool) → word_has w (x % 64) ≡ b → word_bit (set row (x / 64) w) x ≡ b
  same_place b h = bit_is (set row (x / 64) w) x ∙ ap (λ v. word_has v (x % 64)) (get_or-set_same row (x / 64) w 0 lt) ∙ h

  other_place : ((i : ℕ) → i < 64 → i ≢ x % 64 → bit_at w i ≡ bit_at (get_or row (x / 64) 0) i)
      → (y : ℕ) → y ≢ x → word_bit (set row (x / 64) w) y ≡ word_bit row y
  other_place same y ne = bit_is (set row (x / 64) w) y ∙ elim (cases_eq (y / 64) (x / 64)) [
    | inl e ↦ (
        ap (λ z. word_has (get_or (set row (x / 64) w) z 0) (y % 64)) e
        ∙ ap (λ v. word_has v (y % 64)) (get_or-set_same row (x / 64) w 0 lt)
        ∙ ap (λ z. eqb z 1) (same (y % 64) (omega arith) (λ m. ne (omega arith)))
        ∙ ap (λ z. word_has (get_or row z 0) (y % 64)) (sym e)
        )
    | inr o ↦ ap (λ v. word_has v (y % 64)) (get_or-set_other row (x / 64) (y / 64) w 0 o)
  ] ∙ sym (bit_is row y)

module _ (row : List ℕ) (x : ℕ) (lt : x / 64 < length row) where
  pub put_in : word_bit (set row (x / 64) (bit_or (get_or row (x / 64) 0) (1 * 2 ^ (x % 64) % 2 ^ 64))) x ≡ true
  put_in = same_place row x (bit_or (get_or row (x / 64) 0) (1 * 2 ^ (x % 64) % 2 ^ 64)) lt true
      (ap (λ z. eqb z 1) (bit_at_set_same w64 (get_or row (x / 64) 0) (x % 64) (omega arith)))

  pub put_in_others : (y : ℕ) → y ≢ x
      → word_bit (set row (x / 64) (bit_or (get_or row (x / 64) 0) (1 * 2 ^ (x % 64) % 2 ^ 64))) y ≡ word_bit row y
  put_in_others = other_place row x (bit_or (get_or row (x / 64) 0) (1 * 2 ^ (x % 64) % 2 ^ 64)) lt
      (λ i i_lt ne. bit_at_set_other w64 (get_or row (x / 64) 0) (x % 64) (omega arith) i ne)

  pub taken_out : word_bit (set row (x / 64) (bit_and (get_or row (x / 64) 0) (bit_not w64 (1 * 2 ^ (x % 64) % 2 ^ 64)))) x ≡ false
  taken_out = same_place row x (bit_and (get_or row (x / 64) 0) (bit_not w64 (1 * 2 ^ (x % 64) % 2 ^ 64))) lt false
      (ap (λ z. eqb z 1) (bit_at_clear_same w64 (get_or row (x / 64) 0) (x % 64) (omega arith)))

  pub taken_out_others : (y : ℕ) → y ≢ x
      → word_bit (set row (x / 64) (bit_and (get_or row (x / 64) 0) (bit_not w64 (1 * 2 ^ (x % 64) % 2 ^ 64)))) y ≡ word_bit row y
  taken_out_others = other_place row x (bit_and (get_or row (x / 64) 0) (bit_not w64 (1 * 2 ^ (x % 64) % 2 ^ 64))) lt
      (λ i i_lt ne. bit_at_clear_other w64 (get_or row (x / 64) 0) (x % 64) (omega arith) i i_lt ne)

-- ---- words after those of another row came in

pub united : (row other row' : List ℕ) → length row' ≡ length row → length other ≡ length row
    → ((j : ℕ) → j < length row → get_or row' j 0 ≡ bit_or (get_or row j 0) (get_or other j 0)) → (x : ℕ)
    → word_bit row' x ≡ (word_bit row x || word_bit other x)
united row other row' len len' done x = elim (cases_lt (x / 64) (length row)) [
  | inl lt ↦ (
      bit_is row' x ∙ ap (λ w. word_has w (x % 64)) (done (x / 64) lt) ∙ word_or (get_or row (x / 64) 0) (get_or other (x / 64) 0) (x % 64)
      ∙ ap (λ z. z || word_has (get_or other (x / 64) 0) (x % 64)) (sym (bit_is row x))
      ∙ ap (λ z. word_bit row x || z) (sym (bit_is other x))
      )
  | inr le ↦ bit_past row' x (omega arith) ∙ sym
      (or_from (word_bit row x) (word_bit other x) (bit_past row x le) (bit_past other x (omega arith)))
]

-- ---- the lowest bit

pub lowest_in : (words : List ℕ) (k : ℕ) → get_or words k 0 ≢ 0 → get_or words k 0 < 2 ^ 64
    → IsLowestIn words k (64 * k + trailing_zeros w64 (get_or words k 0))
lowest_in words k some fits =
    let w = get_or words k 0 in
    let l = bit_at-trailing_zeros w64 w (omega arith) fits in
    let i = trailing_zeros w64 w in
    let at : (64 * k + i) / 64 ≡ k = let lt = l.0 in omega arith in
    let place : (64 * k + i) % 64 ≡ i = let lt = l.0 in omega arith in
    record {
      word = at;
      here = bit_is words (64 * k + i)
          ∙ ap (λ z. word_has (get_or words z 0) ((64 * k + i) % 64)) at ∙ ap (word_has w) place ∙ ap (λ z. eqb z 1) l.1;
      first = λ y lt e. bit_is words y ∙ ap (λ z. word_has (get_or words z 0) (y % 64)) e ∙ ap (λ z. eqb z 1) (l.2 (y % 64) (omega arith));
    }
