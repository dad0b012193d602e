-- The forest grows by the rows of a pattern, and ends as the list of all parents.
use Rattle.std.proofs.Common.{sym, ◌∙◌, subst, ap, ◌≡◌, inl, inr, refl, ℕ, zero, suc, ◌<◌, ◌≤◌, Bool}
use Rattle.std.proofs.Common.{true, IsTrue, ◌==◌, List, [], ◌∷◌, length, get_or, arith, slice_index}
use Rattle.std.proofs.lemmas.Bool.{or_cases, eqb-true, eq-eqb, both_ways, cases_order, cases_lt}
use Rattle.std.proofs.lemmas.List.{get_or_past, ext_get_or}
use Rattle.std.proofs.lemmas.Grind.{get_or_after_one}
use Rattle.std.proofs.lemmas.List.Folds.{list_any_at}
use Rattle.std.proofs.lemmas.List.FromFn.{get_or-map-range_with_len, length-map-range_with_len}
use Rattle.limits.specs.Limits.{most_order}
use Rattle.patterns.specs.Pattern.{neighbours_of, has, is_joined, IsPattern}
use Rattle.permutations.specs.Perm.{IsVertex, vertex_at, place_of}
use Rattle.ordering.specs.Fill.{renumbered, parent_of, parents_of, IsAdjacency}
use Rattle.elim_tree.specs.Forests.{IsGrown, CanTake, IsTaken, column_in}
use Rattle.elim_tree.specs.ParentTables.{parents_in, IsParentTable}
use Rattle.elim_tree.specs.Paths.{IsWithin}
use Rattle.elim_tree.specs.Reaches.{Reaches, IsFirstReached}
use Rattle.elim_tree.specs.Trees.{parent_at}
use Rattle.elim_tree.proofs.Fills.{from_pattern}
use Rattle.elim_tree.proofs.Children.{reaches_later}
use Rattle.elim_tree.proofs.Columns.{row_within, column_within}
use Rattle.elim_tree.proofs.Forests.{next_column}
use Rattle.elim_tree.proofs.RowSubtrees.{ParentsAreFirst, parent_is_first}

-- ---- what is in a list

pub place_in : (xs : List ℕ) (b : ℕ) → has xs b ≡ true → (j : ℕ) × (j < length xs) × (get_or xs j 0 ≡ b)
place_in [] b h = absurd cc
place_in (x ∷ xs) b h =
    elim (or_cases (x == b) _ h) [
      | inl e ↦ (0, omega arith, eqb-true x b e)
      | inr r ↦ (let f = place_in xs b r in (suc f.0, omega (arith, f.1), f.2))
    ]

pub is_in : (xs : List ℕ) (b j : ℕ) → j < length xs → get_or xs j 0 ≡ b → has xs b ≡ true
is_in xs b j lt e = list_any_at (λ x. x == b) xs j 0 lt (eq-eqb _ b e)

-- ---- the pattern, and the pattern by columns

pub pattern_by_rows : (rows : List (List ℕ)) → IsPattern rows → IsAdjacency (is_joined rows)
pattern_by_rows rows pattern = record {
  symmetric = pattern.symmetric;
  irreflexive = λ a h. both_ways _ (pattern.irreflexive a) h;
  none_of_0 = λ b h. absurd cc;
}

pub within_by_rows : (rows : List (List ℕ)) → IsPattern rows → IsWithin (length rows) (is_joined rows)
within_by_rows rows pattern a b h = pattern.inside b a (pattern.symmetric a b h)

pub vertex_within : (order : List ℕ) (a : ℕ) → 0 < vertex_at order a → IsVertex (length order) a
vertex_within order zero some = absurd (omega arith)
vertex_within order (suc i) some =
    elim (cases_lt (length order) (suc i)) [
      | inl lt ↦ let none : get_or order i 0 ≡ 0 = get_or_past order i 0 (omega arith) in absurd (omega arith)
      | inr le ↦ (omega arith, le)
    ]

-- a pattern by the numbers of an order
pub pattern_renumbered : (joined : ℕ → ℕ → Bool) (order : List ℕ) → IsAdjacency joined → IsAdjacency (renumbered joined order)
pattern_renumbered joined order pattern = record {
  symmetric = λ a b h. pattern.symmetric (vertex_at order a) (vertex_at order b) h;
  irreflexive = λ a h. pattern.irreflexive (vertex_at order a) h;
  none_of_0 = λ b h. pattern.none_of_0 (vertex_at order b) h;
}

pub within_renumbered : (m n : ℕ) (joined : ℕ → ℕ → Bool) (order : List ℕ)
    → IsWithin m joined → length order ≡ n → IsWithin n (renumbered joined order)
within_renumbered m n joined order inside len a b h =
    let some = (inside (vertex_at order a) (vertex_at order b) h).0 in
    subst (λ k. IsVertex k a) len (vertex_within order a (omega arith))

pub pattern_by_columns : (rows : List (List ℕ)) (order : List ℕ) → IsPattern rows → IsAdjacency (renumbered (is_joined rows) order)
pattern_by_columns rows order pattern = pattern_renumbered (is_joined rows) order (pattern_by_rows rows pattern)

pub within_by_columns : (rows : List (List ℕ)) (order : List ℕ)
    → IsPattern rows → IsWithin (length order) (renumbered (is_joined rows) order)
within_by_columns rows order pattern =
    within_renumbered (length rows) (length order) (is_joined rows) order (within_by_rows rows pattern) refl

module _ (rows : List (List ℕ)) (order : List ℕ) (pattern : IsPattern rows) (same : length order ≡ length rows)
    (vertex_back : (v : ℕ) → v ≤ length order → vertex_at order (place_of order v) ≡ v)
    (place_back : (k : ℕ) → k ≤ length order → place_of order (vertex_at order k) ≡ k) where
  by_columns : IsAdjacency (renumbered (is_joined rows) order)
  by_columns = pattern_by_columns rows order pattern

  inside : IsWithin (length order) (renumbered (is_joined rows) order)
  inside = within_by_columns rows order pattern

  pub vertex_in_row : (v j : ℕ) → j < length (neighbours_of rows v) → slice_index (neighbours_of rows v) j ≤ length order
  vertex_in_row v j lt = let low =
      (pattern.inside v (slice_index (neighbours_of rows v) j)
      (is_in (neighbours_of rows v) (slice_index (neighbours_of rows v) j) j lt refl)).1 in
      omega arith

  -- the earlier ones among the row of the k-th vertex are joined to column k
  row_reaches : (k : ℕ) (row : List ℕ) → row ≡ neighbours_of rows (vertex_at order k) → (j : ℕ) → j < length row → column_in row order j < k
      → Reaches (renumbered (is_joined rows) order) (column_in row order j) k
  row_reaches k row e j lt below =
      let v = slice_index row j in
      let lt' : j < length (neighbours_of rows (vertex_at order k)) = subst (λ xs. j < length xs) e lt in
      let there : has (neighbours_of rows (vertex_at order k)) v ≡ true = subst (λ xs. has xs v ≡ true) e (is_in row v j lt refl) in
      let small : v ≤ length order = subst (λ xs. slice_index xs j ≤ length order) (sym e) (vertex_in_row (vertex_at order k) j lt') in
      let back : vertex_at order (place_of order v) ≡ v = vertex_back v small in
      from_pattern (renumbered (is_joined rows) order) by_columns (place_of order v) k
      (pattern.symmetric (vertex_at order k) (vertex_at order (place_of order v))
      (subst (λ x. has (neighbours_of rows (vertex_at order k)) x ≡ true) (sym back) there)) below

  -- .. and they are all that are joined to it
  row_has : (k : ℕ) (row : List ℕ) → row ≡ neighbours_of rows (vertex_at order k) → (i : ℕ) → IsTrue (renumbered (is_joined rows) order i k)
      → (j : ℕ) × (j < length row) × (column_in row order j ≡ i)
  row_has k row e i h =
      let le = (inside i k h).1 in
      let back = pattern.symmetric (vertex_at order i) (vertex_at order k) h in
      let f = place_in row (vertex_at order i) (subst (λ xs. has xs (vertex_at order i) ≡ true) (sym e) back) in
      (f.0, f.1, ap (place_of order) f.2 ∙ place_back i le)

  pub can_take : (k : ℕ) (root : ℕ → ℕ) (parents ancestors row : List ℕ) → row ≡ neighbours_of rows (vertex_at order k)
      → IsGrown (renumbered (is_joined rows) order) k root (slice_index parents) (slice_index ancestors)
      → CanTake (record { joined = renumbered (is_joined rows) order; root = root }) k row order parents ancestors
  can_take k root parents ancestors row e grown = (by_columns, row_reaches k row e, grown)

  pub taken : (k : ℕ) (root : ℕ → ℕ) (parents ancestors row : List ℕ) → row ≡ neighbours_of rows (vertex_at order k)
      → IsTaken (record { joined = renumbered (is_joined rows) order; root = root }) k row order (length row) parents ancestors
      → (new : ℕ → ℕ) × IsGrown (renumbered (is_joined rows) order) (suc k) new (slice_index parents) (slice_index ancestors)
  taken k root parents ancestors row e t = (
    t.0,
    next_column (renumbered (is_joined rows) order) by_columns k 0 t.0 (slice_index parents) (slice_index ancestors) t.1
        (λ i below h. let f = row_has k row e i h in
        let lt : f.0 < length row = f.1 in
        let is = f.2 in
        ap t.0 (sym is) ∙ t.2 f.0 lt (omega arith)),
  )

  pub grown_firsts : (k : ℕ) → length order < k → (root : ℕ → ℕ) (parents ancestors : List ℕ)
      → IsGrown (renumbered (is_joined rows) order) k root (slice_index parents) (slice_index ancestors)
      → (j : ℕ) → j ≤ length order → IsFirstReached (renumbered (is_joined rows) order) j (slice_index parents j)
  grown_firsts k past root parents ancestors grown j le =
      elim (cases_order (slice_index parents j) 0) [
        | inl none ↦ record {
          reached = λ some. absurd (omega arith);
          least = λ i h. absurd ((grown.bare j (omega arith) none).2 i
              (let w = row_within (renumbered (is_joined rows) order) by_columns (length order) inside j i h in omega arith) h);
        }
        | inr o ↦ elim o [ inl w ↦ absurd (omega arith) | inr some ↦ (grown.tied j (omega arith) some).0 ]
      ]

-- before the first column the forest is bare
pub first_column : (joined : ℕ → ℕ → Bool) → IsAdjacency joined → (parents ancestors : List ℕ)
    → ((x : ℕ) → (slice_index parents x ≡ 0) × (slice_index ancestors x ≡ 0))
    → IsGrown joined 1 (λ x. x) (slice_index parents) (slice_index ancestors)
first_column joined pattern parents ancestors clear = record {
  bare = λ x lt e. (refl, (clear x).1, λ i below h. let w = reaches_later joined pattern x i h in omega arith);
  tied = λ x lt some. let none = (clear x).0 in absurd (omega arith);
  ancestors = λ x lt some. let none = (clear x).1 in absurd (omega arith);
  fresh = λ x le. ((clear x).0, (clear x).1, refl);
}

-- ---- the table of all firsts

module _ (parents_are_first : ParentsAreFirst) (joined : ℕ → ℕ → Bool) (pattern : IsAdjacency joined) (n : ℕ) (inside : IsWithin n joined)
    (table : List ℕ) (long : length table ≡ suc n) (firsts : (j : ℕ) → j ≤ n → IsFirstReached joined j (slice_index table j)) where
  none_of_0 : slice_index table 0 ≡ 0
  none_of_0 =
      elim (cases_order (slice_index table 0) 0) [
        | inl e ↦ e
        | inr o ↦ elim o [
          | inl w ↦ absurd (omega arith)
          | inr some ↦ let v = (column_within joined pattern n inside 0 (slice_index table 0) ((firsts 0 (omega arith)).reached some)).0 in
              absurd (omega arith)
        ]
      ]

  some_parents : 0 < length table
  some_parents = omega arith

  length_parents : length (parents_in table) ≡ n
  length_parents = length_in table long
    where
      length_in : (xs : List ℕ) → length xs ≡ suc n → length (parents_in xs) ≡ n
      length_in [] e = absurd (omega arith)
      length_in (x ∷ xs) e = omega arith

  pub are_parents : parents_in table ≡ parents_of joined n
  are_parents =
      ext_get_or 0 (parents_in table) (parents_of joined n) (length_parents ∙ sym (length-map-range_with_len (parent_of joined n) 1 n))
      (λ i lt.
      let small : i < n = subst (λ m. i < m) length_parents lt in
      let first = firsts (suc i) (omega arith) in
      let one : get_or (parents_in table) i 0 ≡ slice_index table (suc i) =
      get_or_after_one table i 0 ∙ ap (λ k. get_or table k 0) (omega arith) in
      one ∙ sym (parent_is_first parents_are_first joined pattern n inside (suc i) (slice_index table (suc i)) first)
      ∙ sym (get_or-map-range_with_len (parent_of joined n) 1 n i (suc i) 0 small (omega arith)))

  pub is_table : 1 ≤ n → n ≤ most_order → IsParentTable table
  is_table some few = record {
    some = some_parents;
    unused = none_of_0;
    forest = record {
      some = subst (λ m. 1 ≤ m) (sym length_parents) some;
      few = subst (λ m. m ≤ most_order) (sym length_parents) few;
      rising = rise;
    };
  }
    where
      rise : (j : ℕ) → 0 < parent_at (parents_in table) j
          → (j < parent_at (parents_in table) j) × (parent_at (parents_in table) j ≤ length (parents_in table))
      rise zero have = absurd (omega arith)
      rise (suc i) have =
          let one : get_or (parents_in table) i 0 ≡ slice_index table (suc i) =
          get_or_after_one table i 0 ∙ ap (λ k. get_or table k 0) (omega arith) in
          elim (cases_lt n (suc i)) [
            | inl past ↦ let none : slice_index table (suc i) ≡ 0 = get_or_past table (suc i) 0 (omega arith) in absurd (omega arith)
            | inr le ↦
                let r = (firsts (suc i) le).reached (omega arith) in
                let up = reaches_later joined pattern (suc i) (slice_index table (suc i)) r in
                let most = row_within joined pattern n inside (suc i) (slice_index table (suc i)) r in
                let len = length_parents in
                (omega arith, omega arith)
          ]
