-- The rows into which a column is taken, as a list of neighbours.
use Rattle.std.proofs.Common.{subst, ◌+◌, ◌-◌, ◌≡◌, inl, inr, refl, ℕ, zero, suc, ◌<◌, ◌≤◌, Bool, false, List, length, arith, slice_index}
use Rattle.std.specs.List.Sorted.{IsStrictlyIncreasing}
use Rattle.std.proofs.lemmas.Bool.{cases_eq}
use Rattle.patterns.specs.Pattern.{neighbours_of, is_joined, IsPattern}
use Rattle.permutations.specs.Perm.{vertex_at}
use Rattle.ordering.specs.Fill.{renumbered}
use Rattle.elim_tree.specs.Forests.{column_in}
use Rattle.column_counts.specs.declared.leaves.Leaves.{Leaves}
use Rattle.column_counts.specs.Leaves.{any_in, IsFirsts, AreEmpty, AreLeavesBefore, CanTakeColumn}
use Rattle.column_counts.proofs.FactorRows.{IsFactor, AreRows, joined_in_list, stands_in_list}
use Rattle.elim_tree.proofs.Growth.{is_in}
use Rattle.column_counts.proofs.SumLemmas.{any_in_none, sum_in_none, passing_none}
use Rattle.column_counts.proofs.SpanRows.{below_row}

-- ---- no column was taken

pub none_taken : (joined : ℕ → ℕ → Bool) (firsts order parents : List ℕ) (t : Leaves)
    → AreEmpty parents t → AreLeavesBefore joined firsts order 1 t
none_taken joined firsts order parents t empty = (
  λ i y. false,
  record {
    balance = λ x lt.
        let p = sum_in_none (slice_index t.leaves.items) (slice_index firsts x) (suc x) (λ y. (empty.clear y).1) in
        let m = sum_in_none (slice_index t.meetings.items) (slice_index firsts x) (suc x) (λ y. (empty.clear y).2) in
        let k = passing_none (λ i. any_in (λ y. false) (slice_index firsts x) (suc x))
        (length firsts) (λ i lt. any_in_none (slice_index firsts x) (suc x)) in
        omega arith;
    until = λ i y h. absurd cc;
    none = λ i e y h. absurd cc;
    leaf = λ i some. absurd (let z = (empty.clear (vertex_at order i)).0 in omega arith);
    covers = λ i y x h. absurd cc;
  },
  record {
    sound = λ i y h. absurd cc;
    whole = λ i y some lt. absurd (omega arith);
  },
)

-- ---- a rising list of vertices is no longer than there are vertices

rising_low : (xs : List ℕ) → IsStrictlyIncreasing xs → (k : ℕ) → k < length xs → slice_index xs 0 + k ≤ slice_index xs k
rising_low xs rising zero lt = omega arith
rising_low xs rising (suc k) lt =
    let ih = rising_low xs rising k (omega arith) in
    let e : k + 1 ≡ suc k = omega arith in
    let up : slice_index xs k < slice_index xs (suc k) = subst (λ m. slice_index xs k < slice_index xs m) e (rising k (omega arith)) in
    omega arith

pub short_row : (rows : List (List ℕ)) → IsPattern rows → (v : ℕ) → length (neighbours_of rows v) ≤ length rows
short_row rows pattern v =
    let xs = neighbours_of rows v in
    elim (cases_eq (length xs) 0) [
      | inl e ↦ omega arith
      | inr ne ↦ (
          let last = length xs - 1 in
          let low = rising_low xs (pattern.rising v) last (omega arith) in
          let first = (pattern.inside v (slice_index xs 0) (is_in xs (slice_index xs 0) 0 (omega arith) refl)).0 in
          let most = (pattern.inside v (slice_index xs last) (is_in xs (slice_index xs last) last (omega arith) refl)).1 in
          omega arith
          )
    ]

module _ (rows : List (List ℕ)) (order : List ℕ) (are : AreRows rows order) (parents : List ℕ)
    (factor : IsFactor (renumbered (is_joined rows) order) (length order) parents)
    (firsts : List ℕ) (len : length firsts ≡ length order + 1) (is : IsFirsts parents firsts)
    (j : ℕ) (list : List ℕ) (e : list ≡ neighbours_of rows (vertex_at order j)) where
  pub can_take : (t : Leaves) → AreLeavesBefore (renumbered (is_joined rows) order) firsts order j t
      → CanTakeColumn (renumbered (is_joined rows) order) firsts list order j t
  can_take t before = record {
    below = below_row (renumbered (is_joined rows) order) (length order) parents factor firsts len is;
    sound = λ k lt far. factor.pattern.symmetric j (column_in list order k) (joined_in_list rows order are j list e k lt);
    whole = λ i far h. stands_in_list rows order are j list e i (factor.inside i j h).1 (factor.pattern.symmetric i j h);
    before = before;
  }
