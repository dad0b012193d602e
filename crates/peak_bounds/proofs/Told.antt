-- Lowered sizes as they are told, item by item and place by place.
use Rattle.std.proofs.Common.{◌≡◌, ◌≢◌, ◌⊎◌, ◌↔◌, ℕ, ◌+◌, ◌-◌, ◌<◌, ◌≤◌, Bool, true, false, eqb, List, [], ◌∷◌, length, map, take, drop}
use Rattle.std.proofs.Common.{get_or, set, None, refl, sym, ap, subst, ◌∙◌, arith, length-append, inl, inr, cond}
use Rattle.std.specs.Prelude.{ℤ, pos, negsuc, ◌≤ℤ◌, All, unsigned_abs}
use Rattle.std.proofs.Common.{neg_ℤ}
use Rattle.std.specs.List.{sum_by}
use Rattle.std.proofs.lemmas.Int.{ints}
use Rattle.std.proofs.lemmas.Bool.{cases_Bool, cases_eq, ne_eqb}
use Rattle.std.proofs.lemmas.List.{drop_more, drop_all, drop-drop, get_or-map, same_lists, ext_get_or, get_or_default, get_or-set_same, get_or-set_other}
use Rattle.std.proofs.lemmas.List.FromFn.{length-map-range_with_len, get_or-map-range_with_len}
use Rattle.std.proofs.lemmas.List.Elements.{All-head, All-tail}
use Rattle.std.proofs.lemmas.List.Sums.{sum_by-cons, sum_by_more_le_part, sum_by_more}
use Rattle.limits.specs.Limits.{most_total}
use Rattle.shared_systems.specs.Shared.{SharedItem, shared_item_at, shared_size_if, shared_size_where}
use Rattle.shared_systems.specs.Bounds.{shared_size}
use Rattle.peak_bounds.specs.declared.evidence.Amount.{Amount}
use Rattle.peak_bounds.specs.Moments.{item_uses, uses_of, above_zero, FitSizes}
use Rattle.peak_bounds.specs.Evidence.{amount_or, lowered_by, IsAmount, place_of}
use Rattle.peak_bounds.specs.Judging.{size_at, AreSmall}

-- ---- sizes of items that pass a test

abbrev pub no_item : SharedItem
no_item = record { size = 0; from = None; readers = [] }

size_if-le : (test : SharedItem → Bool) (x : SharedItem) → shared_size_if test x ≤ shared_size x
size_if-le test x = elim (cases_Bool (test x)) [
  | inl passed ↦ (let e : shared_size_if test x ≡ x.size = rw passed refl in omega (arith, e))
  | inr failed ↦ (let e : shared_size_if test x ≡ 0 = rw failed refl in omega (arith, e))
]

pub part-le : (test : SharedItem → Bool) (items : List SharedItem) → shared_size_where test items ≤ sum_by shared_size items
part-le test [] = omega arith
part-le test (x ∷ items) =
    omega (arith, size_if-le test x, part-le test items, sum_by-cons (shared_size_if test) x items, sum_by-cons shared_size x items)

-- the sizes so far and the next size are within the whole
pub part_more-le : (test : SharedItem → Bool) (items : List SharedItem) (i : ℕ) → i < length items
    → shared_size_where test (take i items) + (shared_item_at items i).size ≤ sum_by shared_size items
part_more-le test items i lt = sum_by_more_le_part (shared_size_if test) shared_size items i no_item lt (size_if-le test)

pub part_more : (test : SharedItem → Bool) (items : List SharedItem) (i : ℕ) (passed : Bool) → i < length items → test (shared_item_at items i) ≡ passed
    → shared_size_where test (take (i + 1) items) ≡ shared_size_where test (take i items) + cond passed (shared_item_at items i).size 0
part_more test items i passed lt e =
    sum_by_more (shared_size_if test) items i no_item lt
    ∙ ap (λ (b : Bool). shared_size_where test (take i items) + cond b (shared_item_at items i).size 0) e

-- ---- amounts

abbrev pub no_amount : Amount
no_amount = record { place = 0; amount = pos 0 }

pub place_at : (amounts : List Amount) (k : ℕ) → k < length amounts → get_or (map place_of amounts) k 0 ≡ (get_or amounts k no_amount).place
place_at amounts k lt = get_or-map place_of amounts k no_amount 0 lt

pub lowered-is : (count : ℕ) (base own : List Amount) (first second : List ℤ) → length first ≡ count → length second ≡ count
    → ((k : ℕ) → k < count → size_at first k ≡ amount_or (pos 0) base (k + 1))
    → ((k : ℕ) → k < count → size_at second k ≡ amount_or (size_at first k) own (k + 1)) → second ≡ lowered_by count base own
lowered-is count base own first second len_first len_second told own_told =
    same_lists second (lowered_by count base own) (len_second ∙ sym (length-map-range_with_len _ 1 count)) (λ k d lt.
    let short : k < count = omega (arith, lt, len_second) in
    get_or_default second k d (pos 0) lt ∙ own_told k short ∙ ap (λ (z : ℤ). amount_or z own (k + 1)) (told k short)
    ∙ sym (get_or-map-range_with_len (λ place. amount_or (amount_or (pos 0) base place) own place) 1 count k (k + 1) d short (omega arith)))

-- what a set tells of a place, where a blocker tells nothing
pub base_told : (count : ℕ) (base : List Amount) (sizes : List ℤ) → sizes ≡ lowered_by count base [] → (k : ℕ) → k < count
    → size_at sizes k ≡ amount_or (pos 0) base (k + 1)
base_told count base sizes is k lt =
    ap (λ (l : List ℤ). size_at l k) is
    ∙ get_or-map-range_with_len (λ place. amount_or (amount_or (pos 0) base place) [] place) 1 count k (k + 1) (pos 0) lt (omega arith)

amount-small : (other : ℤ) (count : ℕ) (amounts : List Amount) (place : ℕ) → unsigned_abs other ≤ most_total → All (IsAmount count) amounts
    → unsigned_abs (amount_or other amounts place) ≤ most_total
amount-small other count [] place small each = small
amount-small other count (a ∷ amounts) place small each = elim (cases_Bool (eqb a.place place)) [
  | inl here ↦ rw here (All-head (IsAmount count) a amounts each).amount
  | inr later ↦ rw later (amount-small other count amounts place small (All-tail (IsAmount count) a amounts each))
]

pub lowered-small : (count : ℕ) (base own : List Amount) → All (IsAmount count) base → All (IsAmount count) own → AreSmall (lowered_by count base own)
lowered-small count base own base_each own_each k d lt =
    let short : k < count = omega (arith, lt, length-map-range_with_len (λ place. amount_or (amount_or (pos 0) base place) own place) 1 count) in
    subst (λ (z : ℤ). unsigned_abs z ≤ most_total)
    (sym (get_or-map-range_with_len (λ place. amount_or (amount_or (pos 0) base place) own place) 1 count k (k + 1) d short (omega arith)))
    (amount-small (amount_or (pos 0) base (k + 1)) count own (k + 1) (amount-small (pos 0) count base (k + 1) (omega arith) base_each) own_each)

-- ---- amounts that are taken back

-- what is told of a place of these is still there, or what was there before is again
abbrev pub IsTaken : List ℤ → List ℤ → List Amount → ℕ → Type 0
IsTaken sizes base amounts k = (size_at sizes k ≡ size_at base k) ⊎ (size_at sizes k ≡ amount_or (size_at base k) amounts (k + 1))

pub all_taken : (sizes base : List ℤ) (amounts : List Amount) (i : ℕ) → length sizes ≡ length base → length amounts ≤ i
    → ((k : ℕ) → k < length sizes → IsTaken sizes base (drop i amounts) k) → sizes ≡ base
all_taken sizes base amounts i len past each = ext_get_or (pos 0) sizes base len (λ k lt. elim (each k lt) [
  | inl back ↦ back
  | inr there ↦ there ∙ ap (λ (l : List Amount). amount_or (size_at base k) l (k + 1)) (drop_all i amounts past)
])

taken_out : (sizes base : List ℤ) (amounts : List Amount) (i k : ℕ) → i < length amounts → (get_or amounts i no_amount).place ≢ k + 1
    → IsTaken sizes base (drop i amounts) k → IsTaken sizes base (drop (i + 1) amounts) k
taken_out sizes base amounts i k lt other (inl back) = inl back
taken_out sizes base amounts i k lt other (inr told) =
    let a = get_or amounts i no_amount in
    let first = ap (λ (l : List Amount). amount_or (size_at base k) l (k + 1)) (drop_more amounts i no_amount lt) in
    let later : amount_or (size_at base k) (a ∷ drop (i + 1) amounts) (k + 1) ≡ amount_or (size_at base k) (drop (i + 1) amounts) (k + 1) = rw (ne_eqb a.place (k + 1) other) refl in
    inr (told ∙ first ∙ later)

-- where one more is taken back
pub taken_more : (sizes base : List ℤ) (amounts : List Amount) (i place : ℕ) → i < length amounts → place < length sizes → 1 ≤ (get_or amounts i no_amount).place
    → place ≡ (get_or amounts i no_amount).place - 1 → ((k : ℕ) → k < length sizes → IsTaken sizes base (drop i amounts) k)
    → (k : ℕ) → k < length sizes → IsTaken (set sizes place (size_at base place)) base (drop (i + 1) amounts) k
taken_more sizes base amounts i place lt inside some is taken k k_lt = elim (cases_eq k place) [
  | inl here ↦ inl (ap (size_at (set sizes place (size_at base place))) here ∙ get_or-set_same sizes place (size_at base place) (pos 0) inside ∙ ap (size_at base) (sym here))
  | inr other ↦ (
      let same = get_or-set_other sizes place k (size_at base place) (pos 0) other in
      let apart : (get_or amounts i no_amount).place ≢ k + 1 = λ e. absurd (other (omega (arith, e, is))) in
      elim (taken_out sizes base amounts i k lt apart (taken k k_lt)) [
        | inl back ↦ inl (same ∙ back)
        | inr told ↦ inr (same ∙ told)
      ])
]

-- ---- one item more

module _ (items : List SharedItem) (lowered : List ℤ) (i start n : ℕ) (lt : i < length items) (n_is : n ≡ length (item_uses (shared_item_at items i))) where
  pub fit_parts : FitSizes (drop i items) (drop start lowered)
      ↔ ((sum_by above_zero (take n (drop start lowered)) ≤ (shared_item_at items i).size) × FitSizes (drop (i + 1) items) (drop (start + n) lowered))
  fit_parts =
      let x = shared_item_at items i in
      let whole = ap (λ (xs : List SharedItem). FitSizes xs (drop start lowered)) (drop_more items i no_item lt) in
      let parts = ap (λ (m : ℕ). (sum_by above_zero (take m (drop start lowered)) ≤ x.size) × FitSizes (drop (i + 1) items) (drop m (drop start lowered))) (sym n_is) in
      let rest = ap (λ (l : List ℤ). (sum_by above_zero (take n (drop start lowered)) ≤ x.size) × FitSizes (drop (i + 1) items) l) (drop-drop n start lowered) in
      let same = whole ∙ parts ∙ rest in
      (λ h. subst (λ (T : Type 0). T) same h, λ h. subst (λ (T : Type 0). T) (sym same) h)

  pub long_more : length (uses_of (drop i items)) ≡ n + length (uses_of (drop (i + 1) items))
  long_more =
      let x = shared_item_at items i in
      omega (
        arith,
        n_is,
        ap (λ (xs : List SharedItem). length (uses_of xs)) (drop_more items i no_item lt),
        length-append (item_uses x) (uses_of (drop (i + 1) items)),
      )

-- ---- small numbers

-- a small number is within the limits on both sides
pub small_sides : (z : ℤ) → unsigned_abs z ≤ most_total → (neg_ℤ (pos most_total) ≤ℤ z) × (z ≤ℤ pos most_total)
small_sides (pos n) small = (omega (arith, ints, small), omega (arith, ints, small))
small_sides (negsuc n) small = (omega (arith, ints, small), omega (arith, ints, small))

pub either_sides : (b : Bool) (z : ℤ) → unsigned_abs z ≤ most_total → (neg_ℤ (pos most_total) ≤ℤ cond b z (pos 0)) × (cond b z (pos 0) ≤ℤ pos most_total)
either_sides true z small = small_sides z small
either_sides false z small = small_sides (pos 0) (omega arith)
