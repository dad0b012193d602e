-- Rows of bits in a list, their vertices counted, and the bits of a word.
use Rattle.std.proofs.Common.{◌≡◌, ◌≢◌, ℕ, suc, ◌+◌, ◌*◌, ◌%◌, ◌^◌, ◌<◌, inl, inr, Bool, false, List, [], ◌∷◌, length, get_or, set, ap, ◌∙◌}
use Rattle.std.proofs.Common.{arith, bit_and, w64}
use Rattle.std.specs.Int.{bit_at, bit_not, trailing_zeros}
use Rattle.std.specs.List.{count_by, range_with_len}
use Rattle.std.proofs.lemmas.Bool.{cases_eq}
use Rattle.std.proofs.lemmas.List.{get_or_default, get_or-set_same, get_or-set_other}
use Rattle.std.proofs.lemmas.List.Sums.{sum_by-cons}
use Rattle.std.proofs.lemmas.Nat.{and_le_l}
use Rattle.std.proofs.lemmas.Nat.Bits.{bit_at_clear_same, bit_at_clear_other, bit_at-trailing_zeros}
use Rattle.bit_rows.specs.Bits.{bit_in}
use Rattle.elimination.specs.Dense.{row_of}
use Rattle.elimination.proofs.Degrees.{bit}

-- ---- a list of rows

pub row_get : (rows : List (List Bool)) (x : ℕ) (d : List Bool) → x < length rows → get_or rows x d ≡ row_of rows x
row_get rows x d lt = get_or_default rows x d [] lt

pub row_here : (rows : List (List Bool)) (x : ℕ) (row : List Bool) → x < length rows → row_of (set rows x row) x ≡ row
row_here rows x row lt = get_or-set_same rows x row [] lt

pub row_other : (rows : List (List Bool)) (x y : ℕ) (row : List Bool) → y ≢ x → row_of (set rows x row) y ≡ row_of rows y
row_other rows x y row ne = get_or-set_other rows x y row [] ne

-- ---- a number that is put in or taken out

pub put_own : (row new : List Bool) (x : ℕ) (b : Bool) → new ≡ set row x b → x < length row → bit_in new x ≡ b
put_own row new x b is lt = ap (λ z. bit_in z x) is ∙ get_or-set_same row x b false lt

pub put_others : (row new : List Bool) (x : ℕ) (b : Bool) → new ≡ set row x b → (y : ℕ) → y ≢ x → bit_in new y ≡ bit_in row y
put_others row new x b is y ne = ap (λ z. bit_in z y) is ∙ get_or-set_other row x y b false ne

-- ---- how many of 0 to n are how many of 1 to n, where 0 is none

pub count_vertices : (p : ℕ → Bool) (n : ℕ) → p 0 ≡ false → count_by p (range_with_len 0 (n + 1)) ≡ count_by p (range_with_len 1 n)
count_vertices p n none =
    let e : n + 1 ≡ suc n = omega arith in
    let s : count_by p (range_with_len 0 (n + 1)) ≡ count_by p (0 ∷ range_with_len 1 n) = ap (λ m. count_by p (range_with_len 0 m)) e in
    let c : count_by p (0 ∷ range_with_len 1 n) ≡ bit (p 0) + count_by p (range_with_len 1 n) =
    sum_by-cons (λ x. bit (p x)) 0 (range_with_len 1 n) in
    let z : bit (p 0) ≡ 0 = ap bit none in
    omega arith

-- ---- the bits of a word, lowest first

module _ (left : ℕ) (some : left ≢ 0) (fits : left < 2 ^ 64) where
  lowest : (trailing_zeros w64 left < 64) × (bit_at left (trailing_zeros w64 left) ≡ 1)
  lowest = let l = bit_at-trailing_zeros w64 left (omega arith) fits in (l.0, l.1)

  pub lowest_inside : trailing_zeros w64 left < 64
  lowest_inside = lowest.0

  pub lowest_set : bit_at left (trailing_zeros w64 left) ≡ 1
  lowest_set = lowest.1

  pub lowest_cleared : bit_at (bit_and left (bit_not w64 (1 * 2 ^ trailing_zeros w64 left % 2 ^ 64))) (trailing_zeros w64 left) ≡ 0
  lowest_cleared = bit_at_clear_same w64 left (trailing_zeros w64 left) lowest.0

  pub others_kept : (i : ℕ) → i < 64 → i ≢ trailing_zeros w64 left
      → bit_at (bit_and left (bit_not w64 (1 * 2 ^ trailing_zeros w64 left % 2 ^ 64))) i ≡ bit_at left i
  others_kept i lt ne = bit_at_clear_other w64 left (trailing_zeros w64 left) lowest.0 i lt ne

  pub lowest_less : bit_and left (bit_not w64 (1 * 2 ^ trailing_zeros w64 left % 2 ^ 64)) < left
  lowest_less =
      let w = bit_and left (bit_not w64 (1 * 2 ^ trailing_zeros w64 left % 2 ^ 64)) in
      let le = and_le_l left (bit_not w64 (1 * 2 ^ trailing_zeros w64 left % 2 ^ 64)) in
      elim (cases_eq w left) [
        | inl e ↦ absurd (let z = ap (λ n. bit_at n (trailing_zeros w64 left)) e in let one = lowest.1 in let none = lowest_cleared in
            omega arith)
        | inr ne ↦ omega arith
      ]
