-- How many bits words have in common.
use Rattle.std.proofs.Common.{◌≡◌, ℕ, zero, suc, ◌+◌, ◌*◌, ◌/◌, ◌%◌, ◌^◌, ◌<◌, ◌≤◌, inl, inr, Bool, false, cond}
use Rattle.std.proofs.Common.{◌&&◌, eqb, List, length, get_or, refl, sym, ap, ◌∙◌, arith, bit_and, count_ones}
use Rattle.std.specs.Int.{bit_at}
use Rattle.std.specs.List.{count_by, range_with_len}
use Rattle.std.specs.Int.Count.{ones_step}
use Rattle.std.proofs.lemmas.Bool.{cases_eq}
use Rattle.std.proofs.lemmas.List.Sums.{sum_by_push}
use Rattle.std.proofs.lemmas.Nat.{ones_le_self}
use Rattle.std.proofs.Math.Nat.{pow-suc}
use Rattle.std.proofs.lemmas.Nat.Bits.{bit_at-lt, bit_at-suc, bit_at_lowest}
use Rattle.lists.proofs.Lists.{range_last}
use Rattle.bit_rows.specs.Bits.{word_bit}
use Rattle.bit_rows.proofs.WordBits.{word_has, bit_is, bit_past, word_and}

abbrev bit : Bool → ℕ
bit b = cond b 1 0

-- a place in a word
pub word_of : (k i : ℕ) → i < 64 → (64 * k + i) / 64 ≡ k
word_of k i lt = omega arith

pub bit_of : (k i : ℕ) → i < 64 → (64 * k + i) % 64 ≡ i
bit_of k i lt = omega arith

-- how many below d pass
below : (ℕ → Bool) → ℕ → ℕ
below p zero = 0
below p (suc d) = below p d + bit (p d)

below_same : (p q : ℕ → Bool) (d : ℕ) → ((i : ℕ) → i < d → p i ≡ q i) → below p d ≡ below q d
unfolding below
below_same p q zero same = refl
below_same p q (suc d) same =
    let i = below_same p q d (λ k lt. same k (omega arith)) in
    let s : bit (p d) ≡ bit (q d) = ap bit (same d (omega arith)) in
    omega arith

below_add : (p : ℕ → Bool) (a b : ℕ) → below p (a + b) ≡ below p a + below (λ i. p (a + i)) b
unfolding below
below_add p a zero = let e : a + 0 ≡ a = omega arith in ap (below p) e ∙ omega arith
below_add p a (suc b) =
    let e : a + suc b ≡ suc (a + b) = omega arith in
    let i = below_add p a b in
    let s = ap (below p) e in
    omega arith

below_stop : (p : ℕ → Bool) (a : ℕ) → ((i : ℕ) → a ≤ i → p i ≡ false) → (k : ℕ) → below p (a + k) ≡ below p a
unfolding below
below_stop p a stop zero = let e : a + 0 ≡ a = omega arith in ap (below p) e
below_stop p a stop (suc k) =
    let e : a + suc k ≡ suc (a + k) = omega arith in
    let i = below_stop p a stop k in
    let s = ap (below p) e in
    let z : bit (p (a + k)) ≡ 0 = ap bit (stop (a + k) (omega arith)) in
    omega arith

below_is : (p : ℕ → Bool) (n : ℕ) → below p n ≡ count_by p (range_with_len 0 n)
unfolding below
below_is p zero = refl
below_is p (suc n) =
    let e : 0 + n ≡ n = omega arith in
    let r = range_last 0 n in
    let s = sum_by_push (λ x. bit (p x)) (range_with_len 0 n) (0 + n) in
    let k = ap (count_by p) r in
    let f = ap (λ z. bit (p z)) e in
    let i = below_is p n in
    omega arith

-- the ones of a word
word_low : (w : ℕ) → w % 2 ≡ bit (word_has w 0)
word_low w =
    let l = bit_at_lowest w in
    let lt = bit_at-lt w 0 in
    elim (cases_eq (bit_at w 0) 1) [
      | inl e ↦ rw e (omega arith)
      | inr ne ↦ (let z : bit_at w 0 ≡ 0 = omega arith in rw z (omega arith))
    ]

ones_below : (d w : ℕ) → w < 2 ^ d → count_ones w ≡ below (word_has w) d
unfolding below
ones_below zero w lt = let z : w ≡ 0 = omega arith in let n = ones_le_self w in omega arith
ones_below (suc d) w lt =
    let p = pow-suc 2 d in
    let i = ones_below d (w / 2) (omega arith) in
    let a = below_add (word_has w) 1 d in
    let e : 1 + d ≡ suc d = omega arith in
    let b = ap (below (word_has w)) e in
    let same = below_same (λ i. word_has w (1 + i)) (word_has (w / 2)) d
    (λ i lt. let e : 1 + i ≡ suc i = omega arith in ap (λ z. eqb (bit_at w z) 1) e ∙ ap (λ z. eqb z 1) (bit_at-suc w i)) in
    let s = ones_step w in
    let l = word_low w in
    omega arith

-- one word more of two rows
pub common : List ℕ → List ℕ → ℕ → Bool
common row other x = word_bit row x && word_bit other x

pub common_below : List ℕ → List ℕ → ℕ → ℕ
common_below row other k = below (common row other) (64 * k)

pub common_none : (row other : List ℕ) → common_below row other 0 ≡ 0
unfolding common_below below
common_none row other = refl

pub common_at : (row other : List ℕ) (k i : ℕ) → i < 64
    → word_has (bit_and (get_or row k 0) (get_or other k 0)) i ≡ (word_bit row (64 * k + i) && word_bit other (64 * k + i))
common_at row other k i lt =
    let at : (r : List ℕ) → word_has (get_or r k 0) i ≡ word_bit r (64 * k + i) = λ r.
    sym (bit_is r (64 * k + i) ∙ ap (λ z. word_has (get_or r z 0) ((64 * k + i) % 64)) (word_of k i lt)
    ∙ ap (word_has (get_or r k 0)) (bit_of k i lt)) in
    word_and (get_or row k 0) (get_or other k 0) i ∙ ap (λ z. z && word_has (get_or other k 0) i) (at row)
    ∙ ap (λ z. word_bit row (64 * k + i) && z) (at other)

pub common_more : (row other : List ℕ) (k : ℕ) → bit_and (get_or row k 0) (get_or other k 0) < 2 ^ 64
    → common_below row other (k + 1) ≡ common_below row other k + count_ones (bit_and (get_or row k 0) (get_or other k 0))
unfolding common_below common
common_more row other k lt =
    let w = bit_and (get_or row k 0) (get_or other k 0) in
    let e : 64 * (k + 1) ≡ 64 * k + 64 = omega arith in
    let s = ap (below (common row other)) e in
    let a = below_add (common row other) (64 * k) 64 in
    let o = ones_below 64 w lt in
    let same = below_same (λ i. common row other (64 * k + i)) (word_has w) 64 (λ i l. sym (common_at row other k i l)) in
    omega arith

pub common_all : (row other : List ℕ) (m n : ℕ) → length row ≤ m → ((x : ℕ) → n ≤ x → word_bit row x ≡ false)
    → common_below row other m ≡ count_by (λ x. word_bit row x && word_bit other x) (range_with_len 0 n)
unfolding common_below common
common_all row other m n long none =
    let p = common row other in
    let out : (x : ℕ) → word_bit row x ≡ false → common row other x ≡ false = λ x e. ap (λ b. b && word_bit other x) e in
    let past = below_stop p (64 * m) (λ i le. out i (bit_past row i (omega arith))) n in
    let over = below_stop p n (λ i le. out i (none i le)) (64 * m) in
    let e : 64 * m + n ≡ n + 64 * m = omega arith in
    let s = ap (below p) e in
    let d = below_is p n in
    omega arith
