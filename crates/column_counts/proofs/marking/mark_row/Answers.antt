use Rattle.std.proofs.Common.{◌≡◌, ◌+◌, ◌<◌, length, set, arith, subst, slice_index}
use Rattle.elim_tree.specs.Trees.{parent_at}
use Rattle.column_counts.specs.Marks.{IsMarkedRow}
use Rattle.column_counts.proofs.MarkLemmas.{row_start}
use Rattle.lists.proofs.Lists.{at_other, at_here}
use Rattle.column_counts.proofs.RowLemmas.{can_mark_up, one_more, none_more}
use Rattle.column_counts.proofs.marking.mark_row.Goals as goal
use Rattle.column_counts.proofs.marking.mark_row.Goals.{then-column-i, else-column-i}

pub loop-vertex-init : goal.loop-vertex-init
loop-vertex-init c = λ factor can.
    let i = c.args.i in
    let lengths = c.requires.lengths in
    let in_counts : i < length c.args.counts.now = omega arith in
    let in_marks : i < length c.args.marks.now = omega arith in
    let more = slice_index c.args.counts.now i + 1 in (
      row_start factor (parent_at c.args.parents.now) i can.0 (slice_index c.args.counts.now) (slice_index c.args.marks.now) can.3
          (slice_index (set c.args.counts.now i more)) (slice_index (set c.args.marks.now i i))
          (at_here c.args.counts.now i more in_counts) (at_other c.args.counts.now i more)
          (at_here c.args.marks.now i i in_marks) (at_other c.args.marks.now i i),
      λ j lt. absurd (omega arith),
    )

pub mark_up-requires-clause-row : goal.mark_up-requires-clause-row
mark_up-requires-clause-row c =
    let factor = c.requires.row.0 in
    let can = c.requires.row.1 in (
      factor,
      can_mark_up factor c.args.i c.loop-vertex.vertex-index c.place-column.result
          c.args.row.now c.args.perm.now c.args.parents.now c.loop-vertex.counts c.loop-vertex.marks
          (c.loop-vertex.invariant factor can) c.place-column.ensures.value
          c.args.counts.now c.args.marks.now can c.loop-vertex-test.true c.if-column-i.true,
    )

pub loop-vertex-preserved : goal.loop-vertex-preserved
loop-vertex-preserved c = λ factor can.
    let t = c.loop-vertex.invariant factor can in
    elim c.if-column-i.branch [
      | then-column-i b ↦
          let start = can_mark_up factor c.args.i c.loop-vertex.vertex-index c.place-column.result
          c.args.row.now c.args.perm.now c.args.parents.now c.loop-vertex.counts c.loop-vertex.marks
          t c.place-column.ensures.value c.args.counts.now c.args.marks.now can c.loop-vertex-test.true b.if-column-i.true in
          rw (b.counts-is, b.marks-is)
          (one_more factor c.args.i c.loop-vertex.vertex-index c.place-column.result c.args.row.now c.args.perm.now c.args.parents.now
          c.loop-vertex.counts c.loop-vertex.marks t c.place-column.ensures.value b.mark_up.new.counts b.mark_up.new.marks
          (b.mark_up.ensures factor start))
      | else-column-i b ↦ rw (b.counts-is, b.marks-is)
          (none_more factor c.args.i c.loop-vertex.vertex-index c.place-column.result c.args.row.now c.args.perm.now c.args.parents.now
          c.loop-vertex.counts c.loop-vertex.marks t c.place-column.ensures.value (λ below. absurd (omega arith)))
    ]

pub returns : goal.returns
returns c = λ factor can.
    let end : c.loop-vertex.vertex-index ≡ length c.args.row.now = omega arith in
    subst (λ k. IsMarkedRow factor c.args.i c.args.row.now c.args.perm.now k c.args.parents.now c.loop-vertex.counts c.loop-vertex.marks)
    end (c.loop-vertex.invariant factor can)
