use Rattle.column_counts.specs.Marks.{Row, CanMarkRow, IsMarkedRow}
use Rattle.column_counts.proofs.marking.mark_row.Given as goal

abbrev pub invariant-loop-vertex : goal.invariant-loop-vertex
invariant-loop-vertex l =
    (factor : Row) → CanMarkRow factor l.i l.row l.perm l.parents l.fn.counts l.fn.marks
    → IsMarkedRow factor l.i l.row l.perm l.vertex-index l.parents l.counts l.marks
