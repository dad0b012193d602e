-- Rows of bits as their words have them.
use Rattle.std.proofs.Common.{◌≡◌, ◌≢◌, ◌∙◌, ℕ, ◌/◌, ◌<◌, inl, inr, Bool, true, false, not, ◌&&◌, ◌||◌}
use Rattle.std.proofs.Common.{eqb, List, length, get_or, set, replicate, sym, ap, ap₂, arith}
use Rattle.std.specs.Prelude.{Some, None, position}
use Rattle.std.specs.List.{count_by, position_or_len, range_with_len}
use Rattle.std.proofs.lemmas.Bool.{cases_eq, cases_lt, cond_below, eqb-true, not-true, not-false, eq-eqb, or_from, true≢false}
use Rattle.std.proofs.lemmas.List.{get_or_past, get_or_default, get_or-set_same, get_or-set_other}
use Rattle.std.proofs.lemmas.List.{get_or-replicate, length-replicate, same_lists, length-set}
use Rattle.std.proofs.lemmas.List.Sums.{fails_before_first}
use Rattle.std.proofs.lemmas.List.Quantifiers.{position-Some}
use Rattle.std.proofs.lemmas.List.FromFn.{get_or-map-range_with_len, length-map-range_with_len}
use Rattle.bit_rows.specs.Bits.{bit_in, word_bit, IsFirstIn, IsNoneInWord, IsSomeInWord, IsFirstInWord}
use Rattle.bit_rows.specs.Rows.{bits_of, IsBitRow, IsLowestIn}
use Rattle.bit_rows.proofs.WordBits.{bit_of_none, bit_zeros}

pub row_length : (len : ℕ) (words : List ℕ) → length (bits_of len words) ≡ len
row_length len words = length-map-range_with_len (word_bit words) 0 len

-- a row has the bits of its words
pub row_bit : (len : ℕ) (words : List ℕ) → IsBitRow len words → (x : ℕ) → bit_in (bits_of len words) x ≡ word_bit words x
row_bit len words is x = elim (cases_lt x len) [
  | inl lt ↦ get_or-map-range_with_len (word_bit words) 0 len x x false lt (omega arith)
  | inr le ↦ get_or_past (bits_of len words) x false (let l = row_length len words in omega arith) ∙ sym (is.past x le)
]

-- a number that is in is below the length
pub bit_within : (row : List Bool) (x : ℕ) → bit_in row x ≡ true → x < length row
bit_within row x here = elim (cases_lt x (length row)) [
  | inl lt ↦ lt
  | inr le ↦ absurd (true≢false (sym here ∙ get_or_past row x false le))
]

-- two rows of one length with the same bits
pub same_rows : (row other : List Bool) → length row ≡ length other
    → ((x : ℕ) → x < length row → bit_in row x ≡ bit_in other x) → row ≡ other
same_rows row other len same = same_lists row other len (λ k d lt.
    get_or_default row k d false lt ∙ same k lt ∙ get_or_default other k false d (omega arith))

-- a row of none
pub none_in : (n x : ℕ) → bit_in (replicate n false) x ≡ false
none_in n x = elim (cases_lt x n) [
  | inl lt ↦ get_or-replicate n x false false lt
  | inr le ↦ get_or_past (replicate n false) x false (let l = length-replicate n false in omega arith)
]

-- one bit is written
pub row_put : (len : ℕ) (words new : List ℕ) (x : ℕ) (b : Bool) → x < len
    → word_bit new x ≡ b → ((y : ℕ) → y ≢ x → word_bit new y ≡ word_bit words y)
    → bits_of len new ≡ set (bits_of len words) x b
row_put len words new x b lt here others =
    let long = row_length len words in
    let long' = row_length len new in
    same_rows (bits_of len new) (set (bits_of len words) x b) (long' ∙ sym (length-set (bits_of len words) x b ∙ long)) (λ k w.
    let within : k < len = omega arith in
    let mine : bit_in (bits_of len new) k ≡ word_bit new k =
    get_or-map-range_with_len (word_bit new) 0 len k k false within (omega arith) in
    elim (cases_eq k x) [
      | inl e ↦ mine ∙ ap (word_bit new) e ∙ here
          ∙ sym (ap (λ j. get_or (set (bits_of len words) x b) j false) e ∙ get_or-set_same (bits_of len words) x b false (omega arith))
      | inr n ↦ mine ∙ others k n ∙ sym (get_or-set_other (bits_of len words) x k b false n
          ∙ get_or-map-range_with_len (word_bit words) 0 len k k false within (omega arith))
    ])

pub put_kept : (len : ℕ) (words new : List ℕ) (x : ℕ) → x < len → IsBitRow len words
    → length new ≡ length words → ((y : ℕ) → y ≢ x → word_bit new y ≡ word_bit words y) → IsBitRow len new
put_kept len words new x lt is long others = record {
  small = is.small;
  long = long ∙ is.long;
  past = λ y le. others y (λ e. absurd (omega arith)) ∙ is.past y le;
}

-- none is in
pub row_none : (len n : ℕ) → bits_of len (replicate n 0) ≡ replicate len false
row_none len n =
    let long = row_length len (replicate n 0) in
    same_rows (bits_of len (replicate n 0)) (replicate len false) (long ∙ sym (length-replicate len false)) (λ k w.
    let within : k < len = omega arith in
    get_or-map-range_with_len (word_bit (replicate n 0)) 0 len k k false within (omega arith)
    ∙ bit_zeros n k ∙ sym (get_or-replicate len k false false within))

-- ---- two rows

pub unite_kept : (len : ℕ) (words other new : List ℕ) → IsBitRow len words → IsBitRow len other → length new ≡ length words
    → ((x : ℕ) → word_bit new x ≡ (word_bit words x || word_bit other x)) → IsBitRow len new
unite_kept len words other new is is' long bits = record {
  small = is.small;
  long = long ∙ is.long;
  past = λ x le. bits x ∙ or_from (word_bit words x) (word_bit other x) (is.past x le) (is'.past x le);
}

pub count_bits : (len : ℕ) (words other : List ℕ) → IsBitRow len words → IsBitRow len other
    → count_by (λ x. word_bit words x && word_bit other x) (range_with_len 0 len)
    ≡ count_by (λ x. bit_in (bits_of len words) x && bit_in (bits_of len other) x) (range_with_len 0 (length (bits_of len words)))
count_bits len words other is is' =
    let p : ℕ → Bool = λ x. word_bit words x && word_bit other x in
    let q : ℕ → Bool = λ x. bit_in (bits_of len words) x && bit_in (bits_of len other) x in
    let e : p ≡ q = λ i. λ x. ap₂ (λ a b. a && b) (sym (row_bit len words is x)) (sym (row_bit len other is' x)) i in
    ap (λ r. count_by r (range_with_len 0 len)) e ∙ ap (λ n. count_by q (range_with_len 0 n)) (sym (row_length len words))

-- ---- the first word that is not 0

abbrev is_some_word : ℕ → Bool
is_some_word w = not (eqb w 0)

pub first_word_some : (words : List ℕ) (k : ℕ) → position (λ w. not (eqb w 0)) words ≡ Some k → (k < length words) × (get_or words k 0 ≢ 0)
first_word_some words k e =
    let h = position-Some is_some_word words k 0 e in
    (h.0, λ z. true≢false (sym (eq-eqb (get_or words k 0) 0 z) ∙ not-true (eqb (get_or words k 0) 0) h.1))

pub first_word_none : (words : List ℕ) → position (λ w. not (eqb w 0)) words ≡ None → (k : ℕ) → get_or words k 0 ≡ 0
first_word_none words e k = elim (cases_lt k (length words)) [
  | inr le ↦ get_or_past words k 0 le
  | inl lt ↦ elim (cases_lt (position_or_len is_some_word words) (length words)) [
    | inl l ↦ absurd (
        let first = position_or_len is_some_word words in
        let is : Some first ≡ None = cond_below first (length words) (Some first) None l ∙ e in
        cc)
    | inr ge ↦
        eqb-true (get_or words k 0) 0 (not-false (eqb (get_or words k 0) 0) (fails_before_first is_some_word words k 0 (omega arith)))
  ]
]

module _ (len : ℕ) (words : List ℕ) (is : IsBitRow len words) where
  pub first_of_row : (k x : ℕ) → position (λ w. not (eqb w 0)) words ≡ Some k → IsLowestIn words k x → IsFirstIn (bits_of len words) x
  first_of_row k x e low =
      let h = position-Some is_some_word words k 0 e in
      let here = row_bit len words is x ∙ low.here in
      record {
        within = bit_within (bits_of len words) x here;
        here = here;
        first = λ y lt. row_bit len words is y ∙ elim (cases_lt (y / 64) k) [
          | inl less ↦
              bit_of_none words y (eqb-true (get_or words (y / 64) 0) 0 (not-false (eqb (get_or words (y / 64) 0) 0) (h.2 (y / 64) less)))
          | inr ge ↦ low.first y lt (let w = low.word in omega arith)
        ];
      }

  pub none_of_row : position (λ w. not (eqb w 0)) words ≡ None → (x : ℕ) → bit_in (bits_of len words) x ≡ false
  none_of_row e x = row_bit len words is x ∙ bit_of_none words x (first_word_none words e (x / 64))

-- ---- the numbers of a word

module _ (len : ℕ) (words : List ℕ) (is : IsBitRow len words) (k : ℕ) where
  pub none_in_word : get_or words k 0 ≡ 0 → IsNoneInWord (bits_of len words) k
  none_in_word z x e = row_bit len words is x ∙ bit_of_none words x (ap (λ j. get_or words j 0) e ∙ z)

  pub some_in_word : (x : ℕ) → IsLowestIn words k x → IsSomeInWord (bits_of len words) k
  some_in_word x low = (x, low.word, row_bit len words is x ∙ low.here)

  pub lowest_of_row : (x : ℕ) → IsLowestIn words k x → IsFirstInWord (bits_of len words) k x
  lowest_of_row x low = record {
    word = low.word;
    here = row_bit len words is x ∙ low.here;
    first = λ y lt e. row_bit len words is y ∙ low.first y lt e;
  }

  -- a word that has a number is not 0, and stands in the row
  pub word_not_zero : IsSomeInWord (bits_of len words) k → get_or words k 0 ≢ 0
  word_not_zero some z = true≢false (sym some.2 ∙ none_in_word z some.0 some.1)

  pub word_stands : IsSomeInWord (bits_of len words) k → k < length words
  word_stands some = elim (cases_lt k (length words)) [
    | inl lt ↦ lt
    | inr le ↦ absurd (word_not_zero some (get_or_past words k 0 le))
  ]
