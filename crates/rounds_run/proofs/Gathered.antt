-- What is gathered for a column, in rising order, is its structure.
use Rattle.std.proofs.Common.{◌≡◌, ◌↔◌, ℕ, ◌<◌, ◌≤◌, inl, inr, true, ◌||◌, eqb, ltb, IsTrue}
use Rattle.std.proofs.Common.{List, length, get_or, sym, ap, subst, ◌∙◌, arith}
use Rattle.std.specs.List.{list_any, dedup, Contains}
use Rattle.std.specs.List.Sorted.{IsPermutation, IsSorted}
use Rattle.std.specs.Ordering.{nat_cmp}
use Rattle.std.proofs.lemmas.Bool.{eq-eqb, eqb-true, ltb-true, lt-ltb, and_parts, and_from, or_cases, or_left, or_right}
use Rattle.std.proofs.lemmas.List.{get_or_default}
use Rattle.std.proofs.lemmas.List.Folds.{list_any_at}
use Rattle.std.proofs.lemmas.List.Kept.{Contains-dedup_nat, Contains-from_dedup}
use Rattle.std.proofs.lemmas.List.Sorted.{list_any-IsPermutation}
use Rattle.std.proofs.lemmas.Map.Keys.{IsStrictlyIncreasing-dedup}
use Rattle.patterns.specs.Pattern.{has, neighbours_of, is_joined, IsPattern}
use Rattle.permutations.specs.Perm.{IsVertex, vertex_at, place_of}
use Rattle.ordering.specs.Fill.{renumbered, structure_of}
use Rattle.elim_tree.specs.Paths.{IsFromChild}
use Rattle.rounds_run.specs.FrontRows.{rows_of_front}
use Rattle.rounds_run.specs.Gathering.{in_lists, is_later, is_gathered}
use Rattle.patterns.proofs.SameRows.{rising_same}
use Rattle.patterns.proofs.NumberLists.{place_of as place_in}
use Rattle.patterns.proofs.NumberLists.{has_at}
use Rattle.lists.proofs.Bools.{same_bool}
use Rattle.rounds_run.proofs.OrderlyRounds.{any_place}
use Rattle.rounds_run.proofs.RowLists.{Laws, has_rows, rows_rise}

-- a list without what it says twice in a row has the same numbers
has_dedup : (xs : List ℕ) (z : ℕ) → has (dedup eqb xs) z ≡ has xs z
has_dedup xs z =
    same_bool _ _ (λ there. from_contains xs z (Contains-from_dedup eqb xs z (to_contains (dedup eqb xs) z there)))
    (λ there. from_contains (dedup eqb xs) z (Contains-dedup_nat xs z (to_contains xs z there)))
  where
    to_contains : (ys : List ℕ) (y : ℕ) → has ys y ≡ true → Contains ys y
    to_contains ys y there = (let place = place_in ys y there in (place.0, place.1, get_or_default ys place.0 y 0 place.1 ∙ place.2))

    from_contains : (ys : List ℕ) (y : ℕ) → Contains ys y → has ys y ≡ true
    from_contains ys y (k, lt, e) = subst (λ w. has ys w ≡ true) (get_or_default ys k 0 y lt ∙ e) (has_at ys k lt)

-- a pattern and an order of its vertices
pub record IsOrdered (rows : List (List ℕ)) (order : List ℕ) : Type 0 where
  pub pattern : IsPattern rows
  pub long : length order ≡ length rows
  pub vertex : (v : ℕ) → v ≤ length order → vertex_at order (place_of order v) ≡ v
  pub place : (k : ℕ) → k ≤ length order → place_of order (vertex_at order k) ≡ k

module _ (rows : List (List ℕ)) (order : List ℕ) (is : IsOrdered rows order)
    (laws : Laws (renumbered (is_joined rows) order) (length order)) where
  later_joined : (j x : ℕ) → list_any (is_later order j x) (neighbours_of rows (vertex_at order j)) ≡ true
      → (renumbered (is_joined rows) order j x ≡ true) × (j < x)
  later_joined j x there =
      let row = neighbours_of rows (vertex_at order j) in
      let place = any_place (is_later order j x) row 0 there in
      let v = get_or row place.0 0 in
      let parts = and_parts (ltb j (place_of order v)) (eqb (place_of order v) x) place.2 in
      let after = ltb-true j (place_of order v) parts.0 in
      let at = eqb-true (place_of order v) x parts.1 in
      let inside = is.pattern.inside (vertex_at order j) v (has_at row place.0 place.1) in
      let back : v ≡ vertex_at order x = sym (is.vertex v (omega (arith, inside.1, is.long))) ∙ ap (vertex_at order) at in
      (subst (λ z. has row z ≡ true) back (has_at row place.0 place.1), omega (arith, after, at))

  joined_later : (j x : ℕ) → renumbered (is_joined rows) order j x ≡ true → j < x
      → list_any (is_later order j x) (neighbours_of rows (vertex_at order j)) ≡ true
  joined_later j x there lt =
      let row = neighbours_of rows (vertex_at order j) in
      let place = place_in row (vertex_at order x) there in
      let vertex = laws.inside x j (laws.pattern.symmetric j x there) in
      let back : place_of order (get_or row place.0 0) ≡ x = ap (place_of order) place.2 ∙ is.place x vertex.1 in
      list_any_at (is_later order j x) row place.0 0 place.1
      (and_from _ _ (lt-ltb j (place_of order (get_or row place.0 0)) (omega (arith, back, lt))) (eq-eqb _ x back))

  gathered_is : (j : ℕ) → IsVertex (length order) j → (lists : List (List ℕ))
      → ((i : ℕ) → IsTrue (in_lists lists i) ↔ IsFromChild (renumbered (is_joined rows) order) (length order) j i) → (x : ℕ)
      → is_gathered order (neighbours_of rows (vertex_at order j)) lists j x ≡ structure_of (renumbered (is_joined rows) order) j x
  gathered_is j vertex lists children x =
      let row = neighbours_of rows (vertex_at order j) in
      same_bool _ _
      (λ there. (laws.children j x vertex).1 (elim (or_cases (eqb j x || list_any (is_later order j x) row) (in_lists lists x) there) [
        | inl here ↦ elim (or_cases (eqb j x) (list_any (is_later order j x) row) here) [
          | inl own ↦ inl (sym (eqb-true j x own))
          | inr later ↦ inr (inl (later_joined j x later))
        ]
        | inr left ↦ inr (inr ((children x).0 left))
      ]))
      (λ there. elim ((laws.children j x vertex).0 there) [
        | inl own ↦ or_left _ _ (or_left _ _ (eq-eqb j x (sym own)))
        | inr more ↦ elim more [
          | inl later ↦ or_left _ _ (or_right _ _ (joined_later j x later.0 later.1))
          | inr left ↦ or_right _ _ ((children x).1 left)
        ]
      ])

  -- the list, sorted, each row once
  pub gathered_rows : (j : ℕ) → IsVertex (length order) j → (lists : List (List ℕ))
      → ((i : ℕ) → IsTrue (in_lists lists i) ↔ IsFromChild (renumbered (is_joined rows) order) (length order) j i)
      → (list sorted : List ℕ)
      → ((x : ℕ) → has list x ≡ is_gathered order (neighbours_of rows (vertex_at order j)) lists j x)
      → IsPermutation list sorted → IsSorted nat_cmp sorted
      → dedup eqb sorted ≡ rows_of_front (renumbered (is_joined rows) order) (length order) j
  gathered_rows j vertex lists children list sorted holds moved rises =
      rising_same (dedup eqb sorted) (rows_of_front (renumbered (is_joined rows) order) (length order) j)
      (IsStrictlyIncreasing-dedup sorted rises)
      (rows_rise _ _ laws j)
      (λ z. has_dedup sorted z ∙ sym (list_any-IsPermutation (λ y. eqb y z) list sorted moved) ∙ holds z
      ∙ gathered_is j vertex lists children z ∙ sym (has_rows _ _ laws j z vertex))
