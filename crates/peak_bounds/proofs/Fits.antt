-- Items that count for at most what they are, one by one; and sizes that differ from others at a few places.
use Rattle.std.proofs.Common.{◌≡◌, ◌↔◌, ℕ, zero, suc, ◌+◌, ◌-◌, ◌<◌, ◌≤◌, true, false, eqb, eq-eqb, List, [], ◌∷◌, ◌++◌, length, take, drop}
use Rattle.std.proofs.Common.{get_or, Option, refl, sym, ap, subst, ◌∙◌, arith, length-append, inl, inr, replicate}
use Rattle.std.specs.Prelude.{ℤ, pos, All, IsTrue, min, slice_range}
use Rattle.std.proofs.Math.Seq.{get_or-append_seam}
use Rattle.std.specs.List.{sum_by, list_any}
use Rattle.std.proofs.lemmas.Bool.{cases_Bool, cases_eq, cases_lt, ne_eqb, eqb-true}
use Rattle.std.proofs.lemmas.List.{drop-drop, get_or-drop, get_or-take, ext_get_or, length-drop, length-take, take_more, take_all, flat_map_more}
use Rattle.std.proofs.lemmas.List.{take-take, get_or_append_left, get_or-append_right, get_or-replicate, length-replicate}
use Rattle.std.proofs.lemmas.List.Elements.{All-nil, All-cons, All-append, All-replicate}
use Rattle.std.proofs.lemmas.List.FromFn.{get_or-map-range_with_len}
use Rattle.std.proofs.lemmas.List.Folds.{length-flat_map-take}
use Rattle.shared_systems.specs.Shared.{SharedItem, shared_item_at}
use Rattle.peak_bounds.specs.declared.evidence.Amount.{Amount}
use Rattle.peak_bounds.specs.declared.fitting.Fitting.{Fitting}
use Rattle.peak_bounds.specs.Moments.{uses_for, item_uses, uses_of, above_zero, FitSizes}
use Rattle.peak_bounds.specs.Evidence.{amount_or, lowered_by, IsAmount}
use Rattle.peak_bounds.specs.Judging.{size_at}
use Rattle.peak_bounds.specs.Fitting.{use_start, FitsAt, AreStarts, AreItemsOfUses, ArePlaced, IsFitting, IsPut, item_told}
use Rattle.peak_bounds.proofs.Lists.{neither}
use Rattle.peak_bounds.proofs.Following.{found_at}
use Rattle.peak_bounds.proofs.Told.{no_item, no_amount, base_told}
use Rattle.peak_bounds.proofs.Verdicts.{lowered-len}

-- ---- where uses begin

pub start_more : (items : List SharedItem) (i : ℕ) → i < length items
    → use_start items (i + 1) ≡ use_start items i + length (item_uses (shared_item_at items i))
start_more items i lt =
    ap (λ (l : List SharedItem). length (uses_of l)) (take_more items i no_item lt)
    ∙ ap (λ (l : List _). length l) (sym (flat_map_more item_uses [] (take i items) (shared_item_at items i)))
    ∙ length-append (uses_of (take i items)) (item_uses (shared_item_at items i))

pub start_all : (items : List SharedItem) (i : ℕ) → length items ≤ i → use_start items i ≡ length (uses_of items)
start_all items i long = ap (λ (l : List SharedItem). length (uses_of l)) (take_all i items long)

-- the uses of an item begin before they end, and end within all
pub ends-le : (items : List SharedItem) (i : ℕ) → i < length items
    → (use_start items i ≤ use_start items (i + 1)) × (use_start items (i + 1) ≤ length (uses_of items))
ends-le items i lt = (
  omega (arith, start_more items i lt),
  omega (arith, start_more items i lt, length-flat_map-take item_uses items i no_item lt),
)

start-le : (items : List SharedItem) (i : ℕ) → use_start items i ≤ length (uses_of items)
start-le items i = elim (cases_lt i (length items)) [
  | inl inside ↦ omega (arith, length-flat_map-take item_uses items i no_item inside)
  | inr past ↦ omega (arith, start_all items i past)
]

pub starts-le : (items : List SharedItem) (j i : ℕ) → j ≤ i → use_start items j ≤ use_start items i
starts-le items j i le =
    omega (arith, start-le (take i items) j, ap (λ (l : List SharedItem). length (uses_of l)) (take-take j i items le))

-- each item has a use
some_use : (x : SharedItem) → 1 ≤ length (item_uses x)
some_use x = some x.from x.readers where
  some : (from : Option ℕ) (readers : List ℕ) → 1 ≤ length (uses_for from readers)
  some from [] = omega arith
  some from (c ∷ cs) = omega arith

pub items-le : (items : List SharedItem) → length items ≤ length (uses_of items)
items-le [] = omega arith
items-le (x ∷ items) = omega (arith, some_use x, items-le items, length-append (item_uses x) (uses_of items))

start_next : (x : SharedItem) (items : List SharedItem) (i : ℕ) → use_start (x ∷ items) (suc i) ≡ length (item_uses x) + use_start items i
start_next x items i = length-append (item_uses x) (uses_of (take i items))

-- ---- one item more

module _ (items : List SharedItem) (i : ℕ) (lt : i < length items) where
  pub starts_more : (starts : List ℕ) (start : ℕ) → AreStarts items i starts → start ≡ use_start items (i + 1) → AreStarts items (i + 1) (starts ++ start ∷ [])
  starts_more starts start are is = record {
    len = omega (arith, length-append starts (start ∷ []), are.len);
    each = λ j le. elim (cases_lt j (i + 1)) [
      | inl before ↦ get_or_append_left starts (start ∷ []) 0 j (omega (arith, before, are.len)) ∙ are.each j (omega (arith, before))
      | inr last ↦ (
          let j_is : j ≡ length starts = omega (arith, last, le, are.len) in
          let next : i + 1 ≡ j = omega (arith, last, le) in
          ap (λ (k : ℕ). get_or (starts ++ start ∷ []) k 0) j_is ∙ get_or-append_seam starts start [] 0 ∙ is ∙ ap (use_start items) next)
    ];
  }

  pub of_uses_more : (of_uses : List ℕ) (n : ℕ) → AreItemsOfUses items i of_uses → n ≡ length (item_uses (shared_item_at items i))
      → AreItemsOfUses items (i + 1) (of_uses ++ replicate n i)
  of_uses_more of_uses n are is = record {
    len = omega (arith, length-append of_uses (replicate n i), length-replicate n i, are.len, is, start_more items i lt);
    within = All-append (λ j. j < length items) of_uses (replicate n i) are.within (All-replicate (λ j. j < length items) n i lt);
    each = λ j k less low high. elim (cases_lt k (length of_uses)) [
      | inl before ↦ (
          let first = other j k low before less in
          get_or_append_left of_uses (replicate n i) 0 k before ∙ are.each j k first low high)
      | inr past ↦ (
          let last = later j k high past less in
          get_or-append_right of_uses (replicate n i) (length of_uses) k 0 refl past
          ∙ get_or-replicate n (k - length of_uses) i 0 (omega (arith, past, high, ap (λ (m : ℕ). use_start items (m + 1)) last, start_more items i lt, is, are.len))
          ∙ last)
    ];
  } where
    other : (j k : ℕ) → use_start items j ≤ k → k < length of_uses → j < i + 1 → j < i
    other j k low before less = elim (cases_lt j i) [
      | inl first ↦ first
      | inr last ↦ absurd (let same : j ≡ i = omega (arith, last, less) in omega (arith, low, before, are.len, ap (use_start items) same))
    ]

    later : (j k : ℕ) → k < use_start items (j + 1) → length of_uses ≤ k → j < i + 1 → i ≡ j
    later j k high past less = elim (cases_lt j i) [
      | inl first ↦ absurd (omega (arith, high, past, are.len, starts-le items (j + 1) i (omega (arith, first))))
      | inr last ↦ omega (arith, last, less)
    ]

-- ---- item by item

part_next : (sizes : List ℤ) (n start end : ℕ) → slice_range sizes (n + start) (n + end) ≡ slice_range (drop n sizes) start end
part_next sizes n start end =
    ap (λ (m : ℕ). take m (drop (n + start) sizes)) (let e : n + end - (n + start) ≡ end - start = omega arith in e)
    ∙ ap (λ (l : List ℤ). take (end - start) l) (sym (drop-drop start n sizes))

-- the items after the first, as they stand among all
next_same : (x : SharedItem) (items : List SharedItem) (sizes : List ℤ) (i : ℕ)
    → FitsAt (x ∷ items) sizes (suc i) ≡ FitsAt items (drop (length (item_uses x)) sizes) i
next_same x items sizes i =
    let n = length (item_uses x) in
    let all = x ∷ items in
    let next : suc i + 1 ≡ suc (i + 1) = omega arith in
    let part : slice_range sizes (use_start all (suc i)) (use_start all (suc i + 1)) ≡ slice_range (drop n sizes) (use_start items i) (use_start items (i + 1)) =
    ap (λ (s : ℕ). slice_range sizes s (use_start all (suc i + 1))) (start_next x items i)
    ∙ ap (λ (e : ℕ). slice_range sizes (n + use_start items i) e) (ap (use_start all) next ∙ start_next x items (i + 1))
    ∙ part_next sizes n (use_start items i) (use_start items (i + 1)) in
    ap (λ (l : List ℤ). sum_by above_zero l ≤ (shared_item_at items i).size) part

first_same : (x : SharedItem) (items : List SharedItem) (sizes : List ℤ)
    → FitsAt (x ∷ items) sizes 0 ≡ (sum_by above_zero (take (length (item_uses x)) sizes) ≤ x.size)
first_same x items sizes =
    ap (λ (n : ℕ). sum_by above_zero (take n sizes) ≤ x.size) (let e : use_start (x ∷ items) (0 + 1) - 0 ≡ length (item_uses x) = omega (arith, start_next x items 0) in e)

fits_there : (items : List SharedItem) (sizes : List ℤ) → FitSizes items sizes → (i : ℕ) → i < length items → FitsAt items sizes i
fits_there [] sizes fit i lt = absurd (omega arith)
fits_there (x ∷ items) sizes fit zero lt = subst (λ (T : Type 0). T) (sym (first_same x items sizes)) fit.0
fits_there (x ∷ items) sizes fit (suc i) lt =
    subst (λ (T : Type 0). T) (sym (next_same x items sizes i)) (fits_there items (drop (length (item_uses x)) sizes) fit.1 i (omega arith))

fits_back : (items : List SharedItem) (sizes : List ℤ) → ((i : ℕ) → i < length items → FitsAt items sizes i) → FitSizes items sizes
fits_back [] sizes each = tt
fits_back (x ∷ items) sizes each = (
  subst (λ (T : Type 0). T) (first_same x items sizes) (each 0 (omega arith)),
  fits_back items (drop (length (item_uses x)) sizes) (λ i lt. subst (λ (T : Type 0). T) (next_same x items sizes i) (each (suc i) (omega arith))),
)

-- no item counts for more than it is, just if none of them does
pub fit_each : (items : List SharedItem) (sizes : List ℤ) → FitSizes items sizes ↔ ((i : ℕ) → i < length items → FitsAt items sizes i)
fit_each items sizes = (fits_there items sizes, fits_back items sizes)

-- ---- the items that amounts touch

-- the item of a use is one of the items
pub told_within : (items : List SharedItem) (fitting : Fitting) (told : Amount) (count : ℕ) → ArePlaced items fitting → IsAmount count told
    → count ≡ length (uses_of items) → item_told fitting told < length items
told_within items fitting told count placed is same =
    placed.of_uses.within (told.place - 1) 0 (omega (arith, placed.of_uses.len, start_all items (length items) (omega arith), is.some, is.within, same))

pub told_more : (P : Amount → Type 0) (own : List Amount) (i : ℕ) → i < length own → All P (take i own) → P (get_or own i no_amount) → All P (take (i + 1) own)
told_more P own i lt before here =
    let x = get_or own i no_amount in
    subst (All P) (sym (take_more own i no_amount lt)) (All-append P (take i own) (x ∷ []) before (All-cons P x [] here (All-nil P)))

-- ---- an item that no amount touches

part_same : (sizes base : List ℤ) (start end : ℕ) → length sizes ≡ length base
    → ((k : ℕ) → start ≤ k → k < end → size_at sizes k ≡ size_at base k) → slice_range sizes start end ≡ slice_range base start end
part_same sizes base start end len same =
    let m = end - start in
    let len_one = length-take m (drop start sizes) in
    let len_two = length-take m (drop start base) in
    ext_get_or (pos 0) (take m (drop start sizes)) (take m (drop start base))
    (len_one ∙ ap (λ (n : ℕ). min m n) (length-drop start sizes ∙ ap (λ (n : ℕ). n - start) len ∙ sym (length-drop start base)) ∙ sym len_two)
    (λ j lt.
    let less : j < m = omega (arith, lt, len_one) in
    get_or-take m (drop start sizes) j (pos 0) less ∙ get_or-drop start sizes j (pos 0)
    ∙ same (start + j) (omega arith) (omega (arith, less))
    ∙ sym (get_or-take m (drop start base) j (pos 0) less ∙ get_or-drop start base j (pos 0)))

untold : (fitting : Fitting) (own : List Amount) (i k : ℕ) (z : ℤ) → list_any (λ told. eqb (item_told fitting told) i) own ≡ false
    → get_or fitting.items.items k 0 ≡ i → amount_or z own (k + 1) ≡ z
untold fitting [] i k z none is = refl
untold fitting (a ∷ own) i k z none is =
    let parts = neither (eqb (item_told fitting a) i) (list_any (λ told. eqb (item_told fitting told) i) own) none in
    elim (cases_eq a.place (k + 1)) [
      | inl here ↦ absurd (
          let at : item_told fitting a ≡ i = ap (λ (p : ℕ). get_or fitting.items.items (p - 1) 0) here ∙ ap (λ (j : ℕ). get_or fitting.items.items j 0) (let e : k + 1 - 1 ≡ k = omega arith in e) ∙ is in
          let f : true ≡ false = sym (eq-eqb (item_told fitting a) i at) ∙ parts.0 in
          cc)
      | inr other ↦ rw (ne_eqb a.place (k + 1) other) (untold fitting own i k z parts.1 is)
    ]

module _ (items : List SharedItem) (base : List ℤ) (fitting : Fitting) (is : IsFitting items base fitting) (fits : IsTrue fitting.fits)
    (own : List Amount) (sizes : List ℤ) (put : IsPut base own sizes) (len : length sizes ≡ length (uses_of items))
    (around : All (λ told. FitsAt items sizes (item_told fitting told)) own) where
  fits_one : (i : ℕ) → i < length items → FitsAt items sizes i
  fits_one i lt = elim (cases_Bool (list_any (λ told. eqb (item_told fitting told) i) own)) [
    | inl touched ↦ (
        let found = found_at (λ told. eqb (item_told fitting told) i) own no_amount touched in
        subst (FitsAt items sizes) (eqb-true (item_told fitting (get_or own found.0 no_amount)) i found.2) (around found.0 no_amount found.1))
    | inr untouched ↦ (
        let whole = ends-le items i lt in
        let same = part_same sizes base (use_start items i) (use_start items (i + 1)) put.0 (λ k low high.
        put.1 k (omega (arith, high, whole.1, len))
        ∙ untold fitting own i k (size_at base k) untouched (is.placed.of_uses.each i k lt low high)) in
        subst (λ (l : List ℤ). sum_by above_zero l ≤ (shared_item_at items i).size) (sym same) (fits_there items base (is.fits.0 fits) i lt))
  ]

  pub fit_untouched : FitSizes items sizes
  fit_untouched = fits_back items sizes fits_one

-- ---- sizes by what is told of them

pub put_by : (count : ℕ) (base own : List Amount) (first second : List ℤ) → first ≡ lowered_by count base [] → second ≡ lowered_by count base own
    → IsPut first own second
put_by count base own first second first_is second_is =
    let long = lowered-len count base own second second_is in (
      long ∙ sym (lowered-len count base [] first first_is),
      λ k lt.
          let short : k < count = omega (arith, lt, long) in
          ap (λ (l : List ℤ). size_at l k) second_is
          ∙ get_or-map-range_with_len (λ place. amount_or (amount_or (pos 0) base place) own place) 1 count k (k + 1) (pos 0) short (omega arith)
          ∙ ap (λ (z : ℤ). amount_or z own (k + 1)) (sym (base_told count base first first_is k short)),
    )
