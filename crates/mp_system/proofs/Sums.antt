-- The items of a system by places, and the sums of outputs kept one item at a time.
use Rattle.std.proofs.Common.{◌≡◌, ℕ, ◌+◌, ◌-◌, ◌<◌, ◌≤◌, Bool, true, false, cond, eqb, eq-eqb, List, [], ◌∷◌, map}
use Rattle.std.proofs.Common.{length, take, get_or, set, refl, sym, ap, subst, arith, Option, Some, None, inl, inr}
use Rattle.std.specs.Prelude.{All}
use Rattle.std.specs.List.{sum_by}
use Rattle.std.proofs.lemmas.List.{get_or-set_same, get_or-set_other, get_or_read}
use Rattle.std.proofs.lemmas.List.Sums.{sum_by-cons, sum_by_more, sum_by_more_le_part, sum_by-le-sum_by}
use Rattle.std.proofs.lemmas.Bool.{cases_eq, ne_eqb}
use Rattle.limits.specs.Limits.{most_total}
use Rattle.mp_system.specs.declared.system.Item.{Item}
use Rattle.mp_system.specs.System.{TaskSystem, IsSystem, IsItemWithin, is_named, is_output, size_if, size_where, item_size}

pub size_if-le : (test : Item → Bool) (item : Item) → size_if test item ≤ item_size item
size_if-le test item = elim (test item) as (λ b. cond b item.size 0 ≤ item.size) [ true ↦ omega arith | false ↦ omega arith ]

pub size_where-le : (test : Item → Bool) (items : List Item) → size_where test items ≤ sum_by item_size items
size_where-le test items = sum_by-le-sum_by (size_if test) item_size items (size_if-le test)

pub sum_by_mapped : {X Y : Type 0} (h : X → Y) (f : Y → ℕ) (g : X → ℕ)
    → ((x : X) → f (h x) ≡ g x) → (xs : List X) → sum_by f (map h xs) ≡ sum_by g xs
sum_by_mapped h f g each [] = refl
sum_by_mapped h f g each (x ∷ xs) = omega (arith, sum_by-cons f (h x) (map h xs), sum_by-cons g x xs, each x, sum_by_mapped h f g each xs)

-- ---- the items as the code reads them

module _ (system : TaskSystem) (items : List Item) (same : items ≡ system.items) (within : IsSystem system) where
  pub items_within : All (IsItemWithin system) items
  items_within = subst (All (IsItemWithin system)) (sym same) within.items

  pub items_total : sum_by item_size items ≤ most_total
  items_total = omega (arith, within.total, ap (sum_by item_size) same)

-- ---- sums of outputs

-- what each task produces among the first i items
abbrev pub AreSums : List ℕ → List Item → ℕ → ℕ → Type 0
AreSums sums items n i = (v : ℕ) → 1 ≤ v → v ≤ n → get_or sums (v - 1) 0 ≡ size_where (is_output v) (take i items)

module _ (sums : List ℕ) (items : List Item) (n i : ℕ) (d : Item) (lt : i < length items) (before : AreSums sums items n i) where
  -- an item with a producer
  module _ (u old : ℕ) (len : length sums ≡ n) (from_u : (get_or items i d).from ≡ Some u)
      (low_u : 1 ≤ u) (high_u : u ≤ n) (read : old ≡ get_or sums (u - 1) old) where
    old_is : old ≡ get_or sums (u - 1) 0
    old_is = get_or_read sums (u - 1) old (omega arith) read 0

    pub AreSums-some : AreSums (set sums (u - 1) (old + (get_or items i d).size)) items n (i + 1)
    AreSums-some v low_v high_v =
        let item = get_or items i d in
        let more = sum_by_more (size_if (is_output v)) items i d lt in
        let here : size_if (is_output v) item ≡ cond (eqb u v) item.size 0 =
        ap (λ (o : Option ℕ). cond (is_named o v) item.size 0) from_u in
        elim (cases_eq u v) [
          | inl same ↦ (
              let whole : cond (eqb u v) item.size 0 ≡ item.size = rw (eq-eqb u v same) in
              let written = get_or-set_same sums (u - 1) (old + item.size) 0 (omega arith) in
              let moved = ap (λ (k : ℕ). get_or (set sums (u - 1) (old + item.size)) (k - 1) 0) same in
              let was = ap (λ (k : ℕ). get_or sums (k - 1) 0) same in
              omega (arith, whole, written, moved, was, old_is, more, here, before v low_v high_v)
              )
          | inr other ↦ (
              let none : cond (eqb u v) item.size 0 ≡ 0 = rw (ne_eqb u v other) in
              let kept = get_or-set_other sums (u - 1) (v - 1) (old + item.size) 0 (omega arith) in
              omega (arith, none, kept, more, here, before v low_v high_v)
              )
        ]

    -- the sum is still within the whole
    pub AreSums-fits : old + (get_or items i d).size ≤ sum_by item_size items
    AreSums-fits =
        let part = sum_by_more_le_part (size_if (is_output u)) item_size items i d lt (size_if-le (is_output u)) in
        let more = sum_by_more (size_if (is_output u)) items i d lt in
        omega (arith, part, more, old_is, before u low_u high_u)

  -- an item without one
  pub AreSums-none : (get_or items i d).from ≡ None → AreSums sums items n (i + 1)
  AreSums-none from_none v low_v high_v =
      let more = sum_by_more (size_if (is_output v)) items i d lt in
      let here : size_if (is_output v) (get_or items i d) ≡ 0 =
      ap (λ (o : Option ℕ). cond (is_named o v) (get_or items i d).size 0) from_none in
      omega (arith, more, here, before v low_v high_v)
