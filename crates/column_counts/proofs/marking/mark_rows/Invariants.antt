use Rattle.std.proofs.Common.{◌≡◌, ℕ, ◌<◌, slice_index}
use Rattle.patterns.specs.Pattern.{is_joined}
use Rattle.ordering.specs.Fill.{renumbered}
use Rattle.column_counts.proofs.FactorRows.{row_of}
use Rattle.column_counts.proofs.marking.mark_rows.Given as goal

abbrev pub invariant-loop-i : goal.invariant-loop-i
invariant-loop-i l =
    (x : ℕ) → (slice_index l.counts x ≡ (row_of (renumbered (is_joined l.pattern) l.perm) l.i).before x) × (slice_index l.marks x < l.i)
