-- What uses of items say of the items: who has what it reads, what is held, and what lowered sizes bound.
use Rattle.std.proofs.Common.{◌≡◌, ℕ, ◌≤◌, Bool, true, false, cond, not, ◌&&◌, ◌||◌, eqb, inl, inr, List, [], ◌∷◌, ◌++◌, length}
use Rattle.std.proofs.Common.{map, take, drop, Option, Some, refl, sym, ap, ◌∙◌, arith}
use Rattle.std.specs.Prelude.{ℤ, pos, negsuc, ◌+ℤ◌, ◌≤ℤ◌}
use Rattle.std.specs.List.{list_all, list_any, sum_by}
use Rattle.std.proofs.Math.Bool.{and-false}
use Rattle.std.proofs.lemmas.Int.{ints}
use Rattle.std.proofs.lemmas.Bool.{cases_Bool}
use Rattle.std.proofs.lemmas.List.Folds.{list_all-append}
use Rattle.std.proofs.lemmas.List.Sums.{sum_by-cons}
use Rattle.mp_system.specs.Memory.{is_done_or}
use Rattle.shared_systems.specs.Shared.{SharedItem, is_read_by, shared_size_if, shared_size_where}
use Rattle.shared_systems.specs.SharedMemory.{is_made, are_done, is_held}
use Rattle.peak_bounds.specs.declared.uses.Use.{Use}
use Rattle.peak_bounds.specs.Moments.{uses_for, item_uses, uses_of, is_used_by, is_there, is_held_for, lowered_where, above_zero, FitSizes}
use Rattle.peak_bounds.proofs.Lists.{neither}

-- ---- who has what it reads

one_more : (a b m : Bool) → ((not a || m) && (not b || m)) ≡ (not (a || b) || m)
one_more true true true = refl
one_more true true false = refl
one_more true false true = refl
one_more true false false = refl
one_more false true m = refl
one_more false false m = refl

module _ (done : ℕ → Bool) (v : ℕ) where
  supplied_uses : (from : Option ℕ) (readers : List ℕ)
      → list_all (λ u. not (is_used_by v u) || is_there done u) (map (λ reader. record { from = from; to = Some reader }) readers)
      ≡ (not (list_any (λ c. eqb c v) readers) || is_done_or true done from)
  supplied_uses from [] = refl
  supplied_uses from (c ∷ cs) =
      ap (λ (b : Bool). (not (eqb c v) || is_done_or true done from) && b) (supplied_uses from cs)
      ∙ one_more (eqb c v) (list_any (λ d. eqb d v) cs) (is_done_or true done from)

  supplied_item : (from : Option ℕ) (readers : List ℕ)
      → list_all (λ u. not (is_used_by v u) || is_there done u) (uses_for from readers)
      ≡ (not (list_any (λ c. eqb c v) readers) || is_done_or true done from)
  supplied_item from [] = refl
  supplied_item from (c ∷ cs) = supplied_uses from (c ∷ cs)

  pub inputs_same : (items : List SharedItem)
      → list_all (λ x. not (is_read_by v x) || is_made done x) items
      ≡ list_all (λ u. not (is_used_by v u) || is_there done u) (uses_of items)
  inputs_same [] = refl
  inputs_same (x ∷ items) =
      ap (λ (b : Bool). (not (is_read_by v x) || is_made done x) && b) (inputs_same items)
      ∙ ap (λ (b : Bool). b && list_all (λ u. not (is_used_by v u) || is_there done u) (uses_of items)) (sym (supplied_item x.from x.readers))
      ∙ sym (list_all-append (λ u. not (is_used_by v u) || is_there done u) (item_uses x) (uses_of items))

-- ---- what is held

one_held : (m d e : Bool) → ((m && not d) || (m && not e)) ≡ (m && not (d && e))
one_held true true e = refl
one_held true false e = refl
one_held false d e = refl

module _ (done : ℕ → Bool) where
  held_uses : (from : Option ℕ) (readers : List ℕ)
      → list_any (is_held_for done) (map (λ reader. record { from = from; to = Some reader }) readers)
      ≡ (is_done_or true done from && not (list_all done readers))
  held_uses from [] = sym (and-false (is_done_or true done from))
  held_uses from (c ∷ cs) =
      ap (λ (b : Bool). (is_done_or true done from && not (done c)) || b) (held_uses from cs)
      ∙ one_held (is_done_or true done from) (done c) (list_all done cs)

  -- an item is held as long as it is held for one of its uses
  held_for : (from : Option ℕ) (readers : List ℕ)
      → list_any (is_held_for done) (uses_for from readers) ≡ (is_done_or true done from && not (are_done done readers))
  held_for from [] = or_none (is_done_or true done from && true) where
    or_none : (b : Bool) → (b || false) ≡ b
    or_none true = refl
    or_none false = refl
  held_for from (c ∷ cs) = held_uses from (c ∷ cs)

-- ---- sums of lowered sizes

pub lowered-nil : (test : Use → Bool) (uses : List Use) → lowered_where test uses [] ≡ pos 0
lowered-nil test [] = refl
lowered-nil test (u ∷ uses) = refl

pub lowered-append : (test : Use → Bool) (first rest : List Use) (sizes : List ℤ)
    → lowered_where test (first ++ rest) sizes
    ≡ lowered_where test first (take (length first) sizes) +ℤ lowered_where test rest (drop (length first) sizes)
lowered-append test [] rest sizes = omega (arith, ints)
lowered-append test (u ∷ first) rest [] = omega (arith, ints, lowered-nil test rest)
lowered-append test (u ∷ first) rest (k ∷ sizes) = omega (arith, ints, lowered-append test first rest sizes)

at_most : (b : Bool) (k : ℤ) → cond b k (pos 0) ≤ℤ pos (above_zero k)
at_most true (pos n) = omega (arith, ints)
at_most true (negsuc n) = omega (arith, ints)
at_most false k = omega (arith, ints)

part-le : (test : Use → Bool) (uses : List Use) (sizes : List ℤ) → lowered_where test uses sizes ≤ℤ pos (sum_by above_zero sizes)
part-le test [] sizes = omega (arith, ints)
part-le test (u ∷ uses) [] = omega (arith, ints)
part-le test (u ∷ uses) (k ∷ sizes) =
    omega (arith, ints, at_most (test u) k, part-le test uses sizes, sum_by-cons above_zero k sizes)

lowered-none : (test : Use → Bool) (uses : List Use) (sizes : List ℤ) → list_any test uses ≡ false → lowered_where test uses sizes ≡ pos 0
lowered-none test [] sizes none = refl
lowered-none test (u ∷ uses) [] none = refl
lowered-none test (u ∷ uses) (k ∷ sizes) none =
    let parts = neither (test u) (list_any test uses) none in
    let here : cond (test u) k (pos 0) ≡ pos 0 = rw parts.0 refl in
    omega (arith, ints, here, lowered-none test uses sizes parts.1)

-- ---- lowered sizes of what is held are at most the memory

item-le : (done : ℕ → Bool) (x : SharedItem) (sizes : List ℤ) → sum_by above_zero sizes ≤ x.size
    → lowered_where (is_held_for done) (item_uses x) sizes ≤ℤ pos (shared_size_if (is_held done) x)
item-le done x sizes fits = elim (cases_Bool (is_held done x)) [
  | inl held ↦ (
      let whole : shared_size_if (is_held done) x ≡ x.size = rw held refl in
      omega (arith, ints, part-le (is_held_for done) (item_uses x) sizes, fits, whole))
  | inr gone ↦ (
      let none = lowered-none (is_held_for done) (item_uses x) sizes (held_for done x.from x.readers ∙ gone) in
      omega (arith, ints, none))
]

pub lowered-le : (done : ℕ → Bool) (items : List SharedItem) (sizes : List ℤ) → FitSizes items sizes
    → lowered_where (is_held_for done) (uses_of items) sizes ≤ℤ pos (shared_size_where (is_held done) items)
lowered-le done [] sizes fit = omega (arith, ints)
lowered-le done (x ∷ items) sizes fit =
    let here = item-le done x (take (length (item_uses x)) sizes) fit.0 in
    let later = lowered-le done items (drop (length (item_uses x)) sizes) fit.1 in
    omega (
      arith,
      ints,
      here,
      later,
      lowered-append (is_held_for done) (item_uses x) (uses_of items) sizes,
      sum_by-cons (shared_size_if (is_held done)) x items,
    )
