-- The rows of the factor, by ways up from earlier neighbours, and what marking them all counts.
use Rattle.std.proofs.Common.{sym, ◌∙◌, subst, ap, ◌+◌, ◌-◌, ◌≡◌, ◌≢◌, ◌↔◌, inl, inr, refl, ℕ, zero, suc, ◌<◌, ◌≤◌}
use Rattle.std.proofs.Common.{Bool, true, IsTrue, ◌==◌, List, [], ◌∷◌, ◌++◌, length, drop, map, arith, slice_index}
use Rattle.std.specs.List.{range_with_len, count_by}
use Rattle.std.specs.Cmp.{both_ways}
use Rattle.std.proofs.lemmas.Bool.{cases_eq, or_cases, or_left, eqb-true, eq-eqb}
use Rattle.std.proofs.lemmas.List.{ext_get_or}
use Rattle.std.proofs.lemmas.List.FromFn.{get_or-map-range_with_len, length-map-range_with_len}
use Rattle.std.proofs.lemmas.List.FromFn.{length-range_with_len, map-range_with_len_more}
use Rattle.std.proofs.lemmas.List.Sums.{count_by-le-length}
use Rattle.limits.specs.Limits.{most_order}
use Rattle.patterns.specs.Pattern.{neighbours_of, has, is_joined, IsPattern}
use Rattle.permutations.specs.Perm.{IsVertex, vertex_at, place_of}
use Rattle.ordering.specs.Fill.{graph_at, structure_of, parent_of, parents_of, count_of, counts_of, renumbered, IsAdjacency, IsParent}
use Rattle.elim_tree.specs.Paths.{IsWithin, IsInRowSubtree}
use Rattle.elim_tree.specs.Trees.{parent_at, IsForest, IsAbove, self, step}
use Rattle.elim_tree.specs.Forests.{column_in}
use Rattle.column_counts.specs.Marks.{Row, IsFactorRow, IsMarked, CanMarkRow, IsMarkedRow, bit}
use Rattle.elim_tree.proofs.PermCounts.{range_count}
use Rattle.elim_tree.proofs.Growth.{place_in, is_in}
use Rattle.elim_tree.proofs.RowSubtrees.{above_on}

-- ---- counts over ranges

count_to : (test : ℕ → Bool) (i : ℕ) → 0 < i → count_by test (range_with_len 1 i) ≡ count_by test (range_with_len 1 (i - 1)) + bit (test i)
count_to test zero some = absurd (omega arith)
count_to test (suc m) some = let e : suc m - 1 ≡ m = omega arith in rw e (range_count test m)

pub map_to : (f : ℕ → ℕ) (x : ℕ) → 0 < x → map f (range_with_len 1 (x + 1 - 1)) ≡ map f (range_with_len 1 (x - 1)) ++ f x ∷ []
map_to f x some =
    let e : x + 1 - 1 ≡ x - 1 + 1 = omega arith in
    ap (λ (m : ℕ). map f (range_with_len 1 m)) e ∙ map-range_with_len_more f 1 (x - 1) x (omega arith)

-- row i of the factor, with the counts of the rows before it
abbrev pub row_of : (ℕ → ℕ → Bool) → ℕ → Row
row_of joined i = record {
  holds = λ x. structure_of joined x i;
  before = λ x. count_by (structure_of joined x) (range_with_len 1 (i - 1));
}

-- ---- what is in a list

-- ---- ways up

pub above_le : {parents : List ℕ} {a b : ℕ} → IsForest parents → IsAbove parents a b → a ≤ b
above_le forest self = omega arith
above_le {parents} {a} {b} forest (step s way) = let up = (forest.rising a s).0 in let rest = above_le forest way in omega arith

-- on the way up from a marked column all before i are marked
marked_above : (row : Row) (parents : List ℕ) → IsForest parents
    → (i : ℕ) (counts marks : ℕ → ℕ) → IsMarked row (parent_at parents) i i counts marks
    → {k x : ℕ} → IsAbove parents k x → marks k ≡ i → x < i → marks x ≡ i
marked_above row parents forest i counts marks m self e lt = e
marked_above row parents forest i counts marks m {k} {x} (step some way) e lt =
    let up = (forest.rising k some).0 in
    let le = above_le forest way in
    elim (m.closed k e (omega arith)) [
      | inl next ↦ marked_above row parents forest i counts marks m way next lt
      | inr last ↦ absurd (omega arith)
    ]

pub length_parents : (joined : ℕ → ℕ → Bool) (n : ℕ) (parents : List ℕ) → parents ≡ parents_of joined n → length parents ≡ n
length_parents joined n parents tree = ap length tree ∙ length-map-range_with_len (parent_of joined n) 1 n

-- a table of all counts, without its place 0
pub are_counts : (joined : ℕ → ℕ → Bool) (n : ℕ) (table : List ℕ) → length table ≡ suc n
    → ((x : ℕ) → slice_index table x ≡ count_of joined n x) → drop 1 table ≡ counts_of joined n
are_counts joined n [] long all = absurd (omega arith)
are_counts joined n (unused ∷ counts) long all =
    ext_get_or 0 counts (counts_of joined n) (let len = length-map-range_with_len (count_of joined n) 1 n in omega arith)
    (λ i lt. all (suc i) ∙ sym (get_or-map-range_with_len (count_of joined n) 1 n i (suc i) 0 (omega arith) (omega arith)))

-- ---- a factor: n columns and their tree, with what the laws say of structures and parents

pub record IsFactor (joined : ℕ → ℕ → Bool) (n : ℕ) (parents : List ℕ) : Type 0 where
  pub pattern : IsAdjacency joined
  pub inside : IsWithin n joined
  pub forest : IsForest parents
  pub tree : parents ≡ parents_of joined n
  pub subtrees : (i x : ℕ) → x < i → IsTrue (structure_of joined x i) ↔ IsInRowSubtree joined n i x
  pub first : (j : ℕ) → IsParent joined n j (parent_of joined n j)
  pub later : (j i : ℕ) → IsTrue (structure_of joined j i) → j ≤ i

module _ (joined : ℕ → ℕ → Bool) (n : ℕ) (parents : List ℕ) (factor : IsFactor joined n parents) where
  pub long_parents : length parents ≡ n
  long_parents = length_parents joined n parents factor.tree

  vertex_of : (x i : ℕ) → IsTrue (structure_of joined x i) → x ≢ i → i ≤ n → IsVertex n x
  unfolding graph_at
  vertex_of zero i h ne le =
      elim (or_cases (i == 0) _ h) [
        | inl e ↦ absurd (ne (sym (eqb-true i 0 e)))
        | inr r ↦ absurd (factor.pattern.none_of_0 i r)
      ]
  vertex_of (suc x) i h ne le = let low = factor.later (suc x) i h in (omega arith, omega arith)

  parent_of_vertex : (j : ℕ) → IsVertex n j → parent_at parents j ≡ parent_of joined n j
  parent_of_vertex zero vertex = absurd (let some = vertex.0 in omega arith)
  parent_of_vertex (suc j) vertex =
      let le = vertex.1 in
      ap (λ ps. parent_at ps (suc j)) factor.tree
      ∙ get_or-map-range_with_len (parent_of joined n) 1 n j (suc j) 0 (omega arith) (omega arith)

  pub way_of : (x i : ℕ) → x < i → IsTrue (structure_of joined x i) → (k : ℕ) × IsTrue (joined i k) × (k < i) × IsAbove parents k x
  way_of x i lt h = let w = (factor.subtrees i x lt).0 h in (w.0, w.1, w.2, subst (λ ps. IsAbove ps w.0 x) (sym factor.tree) w.3)

  pub of_way : (x i k : ℕ) → x < i → IsTrue (joined i k) → k < i → IsAbove parents k x → IsTrue (structure_of joined x i)
  of_way x i k lt h below way = (factor.subtrees i x lt).1 (k, h, below, subst (λ ps. IsAbove ps k x) factor.tree way)

  pub factor_row : (i : ℕ) → i ≤ n → IsFactorRow (parent_at parents) i (λ x. structure_of joined x i)
  factor_row i le = record {
    own = or_left _ _ (eq-eqb i i refl);
    up = λ x h ne.
        let low = factor.later x i h in
        let lt : x < i = omega arith in
        let vertex = vertex_of x i h ne le in
        let is = parent_of_vertex x vertex in
        let first = factor.first x in
        let least = first.least i lt le h in
        let up = (first.reached least.0).0 in
        let some = least.0 in
        let most = least.1 in
        let here : 0 < parent_at parents x = omega arith in
        let way = way_of x i lt h in (
          lt,
          omega arith,
          omega arith,
          elim (cases_eq (parent_at parents x) i) [
            | inl e ↦ or_left _ _ (eq-eqb i (parent_at parents x) (sym e))
            | inr other ↦ of_way (parent_at parents x) i way.0 (omega arith) way.1 way.2 (above_on way.3 here)
          ],
        );
  }

  earlier_in_row : (i k : ℕ) → IsTrue (joined i k) → k < i → IsTrue (structure_of joined k i)
  earlier_in_row i k h lt = of_way k i k lt h lt self

  -- marked are just the columns that hold the row
  marks_complete : (row : Row) (i : ℕ) (counts marks : ℕ → ℕ)
      → IsMarked row (parent_at parents) i i counts marks → ((k : ℕ) → k < i → IsTrue (joined i k) → marks k ≡ i)
      → (x : ℕ) → IsTrue (structure_of joined x i) → marks x ≡ i
  marks_complete row i counts marks m done x h =
      let low = factor.later x i h in
      elim (cases_eq x i) [
        | inl e ↦ ap marks e ∙ m.own
        | inr ne ↦ (
            let way = way_of x i (omega arith) h in
            marked_above row parents factor.forest i counts marks m way.3 (done way.0 way.2 way.1) (omega arith)
            )
      ]

  counted : (i : ℕ) → 0 < i → (counts marks : ℕ → ℕ) → IsMarked (row_of joined i) (parent_at parents) i i counts marks
      → ((k : ℕ) → k < i → IsTrue (joined i k) → marks k ≡ i)
      → (x : ℕ) → counts x ≡ count_by (structure_of joined x) (range_with_len 1 i)
  counted i some counts marks m done x =
      let same : (marks x == i) ≡ structure_of joined x i = both_ways (marks x == i) (structure_of joined x i)
      (λ e. m.sound x (eqb-true (marks x) i e)) (λ h. eq-eqb (marks x) i (marks_complete (row_of joined i) i counts marks m done x h)) in
      m.count x ∙ ap (λ b. count_by (structure_of joined x) (range_with_len 1 (i - 1)) + bit b) same
      ∙ sym (count_to (structure_of joined x) i some)

-- ---- rows as lists of neighbours

-- the rows of a pattern, and an order of its vertices
pub record AreRows (rows : List (List ℕ)) (order : List ℕ) : Type 0 where
  pub pattern : IsPattern rows
  pub same : length order ≡ length rows
  pub vertex_back : (v : ℕ) → v ≤ length order → vertex_at order (place_of order v) ≡ v
  pub place_back : (k : ℕ) → k ≤ length order → place_of order (vertex_at order k) ≡ k

pub few_columns : (rows : List (List ℕ)) (order : List ℕ) → AreRows rows order → length order ≤ most_order
few_columns rows order are = let few = are.pattern.few in let same = are.same in omega arith

module _ (rows : List (List ℕ)) (order : List ℕ) (are : AreRows rows order)
    (i : ℕ) (list : List ℕ) (e : list ≡ neighbours_of rows (vertex_at order i)) where
  pub vertex_in_list : (j : ℕ) → j < length list → slice_index list j ≤ length order
  vertex_in_list j lt =
      let there : has (neighbours_of rows (vertex_at order i)) (slice_index list j) ≡ true =
      subst (λ xs. has xs (slice_index list j) ≡ true) e (is_in list (slice_index list j) j lt refl) in
      let low = (are.pattern.inside (vertex_at order i) (slice_index list j) there).1 in
      let same = are.same in
      omega arith

  pub joined_in_list : (j : ℕ) → j < length list → IsTrue (renumbered (is_joined rows) order i (column_in list order j))
  joined_in_list j lt =
      subst (λ v. is_joined rows (vertex_at order i) v ≡ true) (sym (are.vertex_back (slice_index list j) (vertex_in_list j lt)))
      (subst (λ xs. has xs (slice_index list j) ≡ true) e (is_in list (slice_index list j) j lt refl))

  -- who is joined to column i stands in the list
  pub stands_in_list : (k : ℕ) → k ≤ length order → IsTrue (renumbered (is_joined rows) order i k)
      → (j : ℕ) × (j < length list) × (column_in list order j ≡ k)
  stands_in_list k le h =
      let f = place_in list (vertex_at order k) (subst (λ xs. has xs (vertex_at order k) ≡ true) (sym e) h) in
      (f.0, f.1, ap (place_of order) f.2 ∙ are.place_back k le)

  module _ (parents : List ℕ) (factor : IsFactor (renumbered (is_joined rows) order) (length order) parents) where
    pub can_mark : i ≤ length order → (counts marks : List ℕ)
        → ((x : ℕ) → (slice_index counts x ≡ (row_of (renumbered (is_joined rows) order) i).before x) × (slice_index marks x < i))
        → CanMarkRow (row_of (renumbered (is_joined rows) order) i) i list order parents counts marks
    can_mark le counts marks before = (
      factor_row (renumbered (is_joined rows) order) (length order) parents factor i le,
      λ x.
          let most = count_by-le-length (structure_of (renumbered (is_joined rows) order) x) (range_with_len 1 (i - 1)) in
          let long = length-range_with_len 1 (i - 1) in
          let few = few_columns rows order are in
          omega arith,
      λ j lt below. earlier_in_row (renumbered (is_joined rows) order)
          (length order) parents factor i (column_in list order j) (joined_in_list j lt) below,
      before,
    )

    pub all_marked : 0 < i → (counts marks : List ℕ)
        → IsMarkedRow (row_of (renumbered (is_joined rows) order) i) i list order (length list) parents counts marks
        → (x : ℕ)
        → (slice_index counts x ≡ count_by (structure_of (renumbered (is_joined rows) order) x) (range_with_len 1 i))
        × (slice_index marks x < i + 1)
    all_marked some counts marks m x = (
      counted (renumbered (is_joined rows) order) (length order) parents factor i some (slice_index counts) (slice_index marks) m.0
          (λ k lt h.
          let le = (factor.inside k i (factor.pattern.symmetric i k h)).1 in
          let f = stands_in_list k le h in
          let is = f.2 in
          subst (λ c. slice_index marks c ≡ i) is (m.1 f.0 f.1 (omega arith)))
          x,
      (let low = m.0.low x in omega arith),
    )
