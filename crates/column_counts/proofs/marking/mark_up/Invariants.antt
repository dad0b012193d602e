use Rattle.std.proofs.Common.{◌≡◌, ◌-◌, ◌⊎◌, ℕ, IsTrue, slice_index}
use Rattle.elim_tree.specs.Trees.{parent_at}
use Rattle.column_counts.specs.Marks.{Row, IsMarked, CanMarkUp, CanGoOn}
use Rattle.column_counts.proofs.marking.mark_up.Given as goal

abbrev pub invariant-way : goal.invariant-way
invariant-way l =
    CanGoOn l.i l.column (parent_at l.parents) (slice_index l.counts) (slice_index l.marks)
    × ((row : Row) → CanMarkUp row l.i l.fn.start l.parents l.fn.counts l.fn.marks
    → IsMarked row (parent_at l.parents) l.i l.column (slice_index l.counts) (slice_index l.marks)
    × IsTrue (row.holds l.column) × ((slice_index l.marks l.fn.start ≡ l.i) ⊎ (l.column ≡ l.fn.start))
    × ((x : ℕ) → slice_index l.fn.marks x ≡ l.i → slice_index l.marks x ≡ l.i))

abbrev pub decreases-way : goal.decreases-way
decreases-way l = l.i - l.column
