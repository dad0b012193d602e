-- Sums and tests over the items of two systems that are the same up to names.
use Rattle.std.proofs.Common.{◌≡◌, ℕ, Bool, true, false, cond, not, eqb, List, [], ◌∷◌, map}
use Rattle.std.proofs.Common.{Option, Some, None, refl, sym, ap, ◌∙◌, arith, inl, inr}
use Rattle.std.proofs.Math.Path.{fun_ext}
use Rattle.std.specs.Prelude.{IsPermutation}
use Rattle.std.specs.List.{sum_by, list_all, list_any, filter}
use Rattle.std.proofs.lemmas.List.Folds.{list_all-map}
use Rattle.std.proofs.lemmas.List.Sorted.{sum_by-IsPermutation, list_any-IsPermutation}
use Rattle.std.proofs.lemmas.List.Sums.{sum_by-cons}
use Rattle.std.proofs.lemmas.Bool.{cases_Bool, eqb-true, not-false, or_parts, or_right}
use Rattle.mp_system.specs.declared.system.Item.{Item}
use Rattle.mp_system.specs.System.{size_if, size_where, is_input}
use Rattle.mp_system.specs.Memory.{is_produced}
use Rattle.mp_system.specs.Renaming.{renamed, has_producer, is_solid}
use Rattle.mp_system.proofs.Present.{is_supplied}
use Rattle.mp_system.proofs.Sums.{sum_by_mapped}

-- ---- lists

module _ {X : Type 0} (p : X → Bool) where
  -- elements that add nothing may be left out of a sum
  sum_by_kept : (f : X → ℕ) → ((x : X) → p x ≡ false → f x ≡ 0) → (xs : List X) → sum_by f (filter p xs) ≡ sum_by f xs
  sum_by_kept f nothing [] = refl
  sum_by_kept f nothing (x ∷ xs) = elim (cases_Bool (p x)) [
    | inl kept ↦ rw kept (omega (arith, sum_by-cons f x xs, sum_by-cons f x (filter p xs), sum_by_kept f nothing xs))
    | inr left ↦ rw left (omega (arith, sum_by-cons f x xs, nothing x left, sum_by_kept f nothing xs))
  ]

  -- elements that pass may be left out of a test of all
  list_all_kept : (test : X → Bool) → ((x : X) → p x ≡ false → test x ≡ true)
      → (xs : List X) → list_all test (filter p xs) ≡ list_all test xs
  list_all_kept test pass [] = refl
  list_all_kept test pass (x ∷ xs) = elim (cases_Bool (p x)) [
    | inl kept ↦ rw (kept, list_all_kept test pass xs)
    | inr left ↦ rw (left, pass x left) (list_all_kept test pass xs)
  ]

  list_all-list_any : (xs : List X) → list_all p xs ≡ not (list_any (λ x. not (p x)) xs)
  list_all-list_any [] = refl
  list_all-list_any (x ∷ xs) = elim (cases_Bool (p x)) [
    | inl kept ↦ rw kept (list_all-list_any xs)
    | inr left ↦ rw left
  ]

  list_all-IsPermutation : (xs ys : List X) → IsPermutation xs ys → list_all p ys ≡ list_all p xs
  list_all-IsPermutation xs ys moved =
      list_all-list_any ys ∙ ap not (sym (list_any-IsPermutation (λ x. not (p x)) xs ys moved)) ∙ sym (list_all-list_any xs)

-- ---- items of size 0 that no task produces

no_size : (item : Item) → is_solid item ≡ false → item.size ≡ 0
no_size item light = eqb-true item.size 0 (not-false (eqb item.size 0) (or_parts (has_producer item.from) (not (eqb item.size 0)) light).1)

no_size_if : (test : Item → Bool) (item : Item) → is_solid item ≡ false → size_if test item ≡ 0
no_size_if test item light = elim (test item) as (λ b. cond b item.size 0 ≡ 0) [ true ↦ no_size item light | false ↦ refl ]

no_producer : (from : Option ℕ) → has_producer from ≡ false → from ≡ None
no_producer None e = refl
no_producer (Some v) e = absurd cc

no_wait : (done : ℕ → Bool) (v : ℕ) (item : Item) → is_solid item ≡ false → is_supplied done v item ≡ true
no_wait done v item light =
    let from_none = no_producer item.from (or_parts (has_producer item.from) (not (eqb item.size 0)) light).0 in
    or_right (not (is_input v item)) (is_produced done item) (rw from_none)

-- ---- all items

module _ (name : ℕ → ℕ) (own named : List Item)
    (moved : IsPermutation (map (renamed name) (filter is_solid own)) (filter is_solid named)) where
  pub size_where_same : (test other : Item → Bool)
      → ((item : Item) → other (renamed name item) ≡ test item) → size_where other named ≡ size_where test own
  size_where_same test other each =
      sym (sum_by_kept is_solid (size_if other) (no_size_if other) named)
      ∙ sum_by-IsPermutation (size_if other) (map (renamed name) (filter is_solid own)) (filter is_solid named) moved
      ∙ sum_by_mapped (renamed name) (size_if other) (size_if test)
      (λ item. ap (λ (b : Bool). cond b item.size 0) (each item)) (filter is_solid own)
      ∙ sum_by_kept is_solid (size_if test) (no_size_if test) own

  pub supplied_same : (done later : ℕ → Bool) (v u : ℕ)
      → ((item : Item) → is_supplied later u (renamed name item) ≡ is_supplied done v item)
      → list_all (is_supplied later u) named ≡ list_all (is_supplied done v) own
  supplied_same done later v u each =
      sym (list_all_kept is_solid (is_supplied later u) (no_wait later u) named)
      ∙ list_all-IsPermutation (is_supplied later u) (map (renamed name) (filter is_solid own)) (filter is_solid named) moved
      ∙ list_all-map (is_supplied later u) (renamed name) (filter is_solid own)
      ∙ ap (λ (test : Item → Bool). list_all test (filter is_solid own)) (fun_ext each)
      ∙ list_all_kept is_solid (is_supplied done v) (no_wait done v) own
