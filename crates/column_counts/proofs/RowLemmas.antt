-- A row of the factor is marked from a list of neighbours, one after another.
use Rattle.std.proofs.Common.{◌≡◌, ℕ, ◌+◌, ◌<◌, List, length, IsTrue, sym, subst, below_more, slice_index}
use Rattle.elim_tree.specs.Forests.{column_in}
use Rattle.column_counts.specs.Marks.{Row, CanMarkUp, IsMarkedUp, CanMarkRow, IsMarkedRow}

module _ (row : Row) (i k column : ℕ) (list order parents counts marks : List ℕ)
    (t : IsMarkedRow row i list order k parents counts marks) (e : column ≡ column_in list order k) where
  -- the way up from an earlier neighbour may be marked
  pub can_mark_up : (counts' marks' : List ℕ) → CanMarkRow row i list order parents counts' marks'
      → k < length list → column < i → CanMarkUp row i column parents counts marks
  can_mark_up counts' marks' can lt below =
      (can.0, can.1, subst (λ x. IsTrue (row.holds x)) (sym e) (can.2 k lt (subst (λ x. x < i) e below)), t.0)

  pub one_more : (counts' marks' : List ℕ) → IsMarkedUp row i column parents marks counts' marks'
      → IsMarkedRow row i list order (k + 1) parents counts' marks'
  one_more counts' marks' new = (
    new.0,
    below_more (λ j. column_in list order j < i → slice_index marks' (column_in list order j) ≡ i) k
        (λ j lt below. new.2 (column_in list order j) (t.1 j lt below)) (λ _. subst (λ x. slice_index marks' x ≡ i) e new.1),
  )

  pub none_more : (column < i → ⊥) → IsMarkedRow row i list order (k + 1) parents counts marks
  none_more not = (
    t.0,
    below_more (λ j. column_in list order j < i → slice_index marks (column_in list order j) ≡ i) k t.1
        (λ below. absurd (not (subst (λ x. x < i) (sym e) below))),
  )
