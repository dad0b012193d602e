-- The rows of a column, as a list.
use Rattle.std.proofs.Common.{◌≡◌, ◌≢◌, ◌↔◌, ℕ, suc, ◌+◌, ◌<◌, ◌≤◌, inl, inr, Bool, true, not, ◌&&◌, eqb}
use Rattle.std.proofs.Common.{IsTrue, List, ◌∷◌, length, drop, refl, sym, ap, subst, ◌∙◌, arith}
use Rattle.std.specs.List.{filter, range_with_len}
use Rattle.std.specs.List.Sorted.{IsStrictlyIncreasing}
use Rattle.std.proofs.lemmas.Bool.{cases_eq, eq-eqb, ne_eqb, eqb-false, and_parts, and_from, or_left, not-true, not_from_false}
use Rattle.std.proofs.lemmas.List.Kept.{IsStrictlyIncreasing-filter}
use Rattle.std.proofs.lemmas.List.Sums.{length-filter}
use Rattle.patterns.specs.Pattern.{has}
use Rattle.permutations.specs.Perm.{IsVertex}
use Rattle.ordering.specs.Fill.{IsAdjacency, structure_of, parent_of, count_of}
use Rattle.elim_tree.specs.Paths.{Path, edge, via, IsWithin, IsInherited}
use Rattle.rounds_run.specs.FrontRows.{rows_of_front}
use Rattle.rounds_run.proofs.NumberLists.{has_filter, begins_with, filter_same}
use Rattle.patterns.proofs.SameRows.{rising_same}
use Rattle.lists.proofs.Lists.{rising-tail}
use Rattle.patterns.proofs.SameRows.{in_tail as has_tail}
use Rattle.patterns.proofs.SameRows.{above_head}
use Rattle.patterns.proofs.SameRows.{in_range}
use Rattle.lists.proofs.Lists.{range_rising}
use Rattle.lists.proofs.Bools.{same_bool}

-- the laws of the fill for a pattern of n columns
pub record Laws (joined : ℕ → ℕ → Bool) (n : ℕ) : Type 0 where
  pub pattern : IsAdjacency joined
  pub inside : IsWithin n joined
  pub later : (j i : ℕ) → IsTrue (structure_of joined j i) → j ≤ i
  pub children : (j i : ℕ) → IsVertex n j → IsTrue (structure_of joined j i) ↔ IsInherited joined n j i
  pub paths : (j i : ℕ) → j < i → IsTrue (structure_of joined j i) ↔ Path joined j i j

starts_inside : (joined : ℕ → ℕ → Bool) (n k : ℕ) → IsWithin n joined → {a b : ℕ} → Path joined k a b → IsVertex n a
starts_inside joined n k inside (edge h) = inside _ _ h
starts_inside joined n k inside (via h lt rest) = inside _ _ h

module _ (joined : ℕ → ℕ → Bool) (n : ℕ) (laws : Laws joined n) where
  own : (j : ℕ) → structure_of joined j j ≡ true
  own j = or_left _ _ (eq-eqb j j refl)

  pub rows_rise : (j : ℕ) → IsStrictlyIncreasing (rows_of_front joined n j)
  rows_rise j = IsStrictlyIncreasing-filter (structure_of joined j) (range_with_len 1 n) (range_rising 1 n)

  -- the rows of a column are columns
  pub row_vertex : (j i : ℕ) → IsVertex n j → structure_of joined j i ≡ true → IsVertex n i
  row_vertex j i vertex there =
      elim (cases_eq j i) [
        | inl e ↦ subst (IsVertex n) e vertex
        | inr ne ↦ (
            let low = laws.later j i there in
            let way = (laws.paths j i (omega arith)).0 there in
            starts_inside joined n j laws.inside way
            )
      ]

  pub has_rows : (j i : ℕ) → IsVertex n j → has (rows_of_front joined n j) i ≡ structure_of joined j i
  has_rows j i vertex =
      has_filter (structure_of joined j) (range_with_len 1 n) i
      ∙ same_bool _ _ (λ both. (and_parts (has (range_with_len 1 n) i) (structure_of joined j i) both).1)
      (λ there. (
      let is = row_vertex j i vertex there in
      and_from _ _ (in_range 1 n i is.0 (omega (arith, is.1))) there
      ))

  pub rows_long : (j : ℕ) → length (rows_of_front joined n j) ≡ count_of joined n j
  rows_long j = length-filter (structure_of joined j) (range_with_len 1 n)

  pub rows_begin : (j : ℕ) → IsVertex n j → rows_of_front joined n j ≡ j ∷ drop 1 (rows_of_front joined n j)
  rows_begin j vertex =
      begins_with (rows_of_front joined n j) j (rows_rise j) (has_rows j j vertex ∙ own j)
      (λ i there. laws.later j i (sym (has_rows j i vertex) ∙ there))

  rest_rises : (j : ℕ) → IsVertex n j → IsStrictlyIncreasing (drop 1 (rows_of_front joined n j))
  rest_rises j vertex = rising-tail j _ (subst IsStrictlyIncreasing (rows_begin j vertex) (rows_rise j))

  -- past the column itself
  pub has_rest : (j i : ℕ) → IsVertex n j → has (drop 1 (rows_of_front joined n j)) i ≡ (structure_of joined j i && not (eqb i j))
  has_rest j i vertex =
      let rest = drop 1 (rows_of_front joined n j) in
      let rises : IsStrictlyIncreasing (j ∷ rest) = subst IsStrictlyIncreasing (rows_begin j vertex) (rows_rise j) in
      let whole : has (j ∷ rest) i ≡ structure_of joined j i =
      ap (λ z. has z i) (sym (rows_begin j vertex)) ∙ has_rows j i vertex in
      same_bool _ _
      (λ there. (
      let up = above_head j rest i rises there in
      let ne : j ≢ i = λ e. absurd (omega arith) in
      and_from _ _ (sym whole ∙ has_tail j rest i ne ∙ there) (not_from_false _ (ne_eqb i j (λ e. ne (sym e))))
      ))
      (λ both. (
      let parts = and_parts (structure_of joined j i) (not (eqb i j)) both in
      let ne : j ≢ i = λ e. eqb-false i j (not-true (eqb i j) parts.1) (sym e) in
      sym (has_tail j rest i ne) ∙ whole ∙ parts.0
      ))

  -- a column that is the parent of the one before it, and has one row less, has the rows of that but the column itself
  pub rows_next : (j : ℕ) → IsVertex n j → IsVertex n (suc j) → parent_of joined n j ≡ suc j
      → count_of joined n j ≡ count_of joined n (suc j) + 1 → rows_of_front joined n (suc j) ≡ drop 1 (rows_of_front joined n j)
  rows_next j vertex next up fewer =
      let p = λ (i : ℕ). structure_of joined j i && not (eqb i j) in
      let q = structure_of joined (suc j) in
      let rest = drop 1 (rows_of_front joined n j) in
      let listed : rest ≡ filter p (range_with_len 1 n) =
      rising_same rest (filter p (range_with_len 1 n)) (rest_rises j vertex)
      (IsStrictlyIncreasing-filter p (range_with_len 1 n) (range_rising 1 n))
      (λ z. has_rest j z vertex ∙ sym (has_filter p (range_with_len 1 n) z ∙ only z vertex)) in
      let to : (i : ℕ) → p i ≡ true → q i ≡ true = λ i both. (
      let parts = and_parts (structure_of joined j i) (not (eqb i j)) both in
      (laws.children (suc j) i next).1 (inr (inr (j, vertex, up, parts.0, eqb-false i j (not-true (eqb i j) parts.1))))
      ) in
      let one_less : length rest + 1 ≡ length (rows_of_front joined n j) = (
      let long : length (rows_of_front joined n j) ≡ length (j ∷ rest) = ap (λ (z : List ℕ). length z) (rows_begin j vertex) in
      omega (arith, long)
      ) in
      let le : length (filter q (range_with_len 1 n)) ≤ length (filter p (range_with_len 1 n)) = (
      let same : length rest ≡ length (filter p (range_with_len 1 n)) = ap (λ (z : List ℕ). length z) listed in
      omega (arith, one_less, same, rows_long j, rows_long (suc j), fewer)
      ) in
      sym (listed ∙ filter_same p q to (range_with_len 1 n) le) where
        only : (z : ℕ) → IsVertex n j → (has (range_with_len 1 n) z && (structure_of joined j z && not (eqb z j)))
            ≡ (structure_of joined j z && not (eqb z j))
        only z vertex =
            same_bool _ _ (λ both. (and_parts (has (range_with_len 1 n) z) _ both).1)
            (λ passes. (
            let is = row_vertex j z vertex (and_parts (structure_of joined j z) (not (eqb z j)) passes).0 in
            and_from _ _ (in_range 1 n z is.0 (omega (arith, is.1))) passes
            ))
