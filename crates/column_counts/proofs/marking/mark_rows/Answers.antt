use Rattle.std.proofs.Common.{◌≡◌, ◌+◌, ◌-◌, length, arith, sym, ◌∙◌, ap}
use Rattle.std.specs.List.{range_with_len, count_by}
use Rattle.patterns.specs.Pattern.{is_joined, neighbours_of}
use Rattle.ordering.specs.Fill.{renumbered, structure_of}
use Rattle.column_counts.proofs.FactorRows.{IsFactor, AreRows, row_of, long_parents, vertex_in_list, can_mark, all_marked}
use Rattle.column_counts.proofs.marking.mark_rows.Goals as goal
use Rattle.column_counts.proofs.marking.mark_rows.Goals.{After-rows-i-end}

rows_are : (c : After-rows-i-end) → AreRows c.args.pattern.now c.args.perm.now
rows_are c = record {
  pattern = c.rows-i-end.ensures.pattern;
  same = c.requires.len;
  vertex_back = c.places_are_inverse.ensures.vertex (length c.args.perm.now) c.args.perm.now c.keeps.ensures;
  place_back = c.places_are_inverse.ensures.place (length c.args.perm.now) c.args.perm.now c.keeps.ensures;
}

factor_is : (c : After-rows-i-end)
    → IsFactor (renumbered (is_joined c.args.pattern.now) c.args.perm.now) (length c.args.perm.now) c.args.parents.now
factor_is c =
    let joined = renumbered (is_joined c.args.pattern.now) c.args.perm.now in
    let pattern = c.renumbered_pattern.ensures.pattern c.args.pattern.now c.args.perm.now c.rows-i-end.ensures.pattern in
    let inside = c.renumbered_pattern.ensures.within c.args.pattern.now c.args.perm.now c.rows-i-end.ensures.pattern in
    record {
      pattern = pattern;
      inside = inside;
      forest = c.keeps-2.ensures;
      tree = c.requires.tree;
      subtrees = λ i x lt. c.row_subtrees.ensures joined (length c.args.perm.now) i x pattern inside lt;
      first = c.parent_is_first.ensures.parent joined (length c.args.perm.now);
      later = c.no_earlier_row.ensures joined;
    }

pub mark_row-requires-clause-lengths : goal.mark_row-requires-clause-lengths
mark_row-requires-clause-lengths c =
    let long = long_parents (renumbered (is_joined c.args.pattern.now) c.args.perm.now)
    (length c.args.perm.now) c.args.parents.now (factor_is (goal.at.mark_row-requires-clause-lengths c).After-rows-i-end) in
    let lengths = c.requires.lengths in
    let same = c.requires.len in
    (omega arith, omega arith, omega arith)

pub mark_row-requires-clause-vertices : goal.mark_row-requires-clause-vertices
mark_row-requires-clause-vertices c =
    vertex_in_list c.args.pattern.now c.args.perm.now
    (rows_are (goal.at.mark_row-requires-clause-vertices c).After-rows-i-end) c.loop-i.i c.neighbours-row.result.now
    (c.neighbours-row.ensures ∙ ap (neighbours_of c.args.pattern.now) c.at.ensures.value)

pub mark_row-requires-clause-row : goal.mark_row-requires-clause-row
mark_row-requires-clause-row c =
    let before = (goal.at.mark_row-requires-clause-row c).After-rows-i-end in
    let same = c.requires.len in (
      row_of (renumbered (is_joined c.args.pattern.now) c.args.perm.now) c.loop-i.i,
      can_mark c.args.pattern.now c.args.perm.now (rows_are before) c.loop-i.i c.neighbours-row.result.now
          (c.neighbours-row.ensures ∙ ap (neighbours_of c.args.pattern.now) c.at.ensures.value)
          c.args.parents.now (factor_is before) (omega arith) c.loop-i.counts c.loop-i.marks c.loop-i.invariant,
    )

pub loop-i-preserved : goal.loop-i-preserved
loop-i-preserved c =
    let before = (goal.at.loop-i-preserved c).After-rows-i-end in
    let joined = renumbered (is_joined c.args.pattern.now) c.args.perm.now in
    let same = c.requires.len in
    let row = c.neighbours-row.ensures ∙ ap (neighbours_of c.args.pattern.now) c.at.ensures.value in
    let can = can_mark c.args.pattern.now c.args.perm.now (rows_are before) c.loop-i.i c.neighbours-row.result.now row
    c.args.parents.now (factor_is before) (omega arith) c.loop-i.counts c.loop-i.marks c.loop-i.invariant in
    let last : c.loop-i.i + 1 - 1 ≡ c.loop-i.i = omega arith in
    λ x.
    let now = all_marked c.args.pattern.now c.args.perm.now (rows_are before) c.loop-i.i c.neighbours-row.result.now row
    c.args.parents.now (factor_is before) (omega arith) c.mark_row.new.counts c.mark_row.new.marks
    (c.mark_row.ensures (row_of joined c.loop-i.i) can) x in
    (now.0 ∙ ap (λ i. count_by (structure_of joined x) (range_with_len 1 i)) (sym last), now.1)

pub returns-clause-all : goal.returns-clause-all
returns-clause-all c =
    let same = c.requires.len in
    let last : c.loop-i.i - 1 ≡ length c.args.perm.now = omega arith in
    λ x. (c.loop-i.invariant x).0
    ∙ ap (λ i. count_by (structure_of (renumbered (is_joined c.args.pattern.now) c.args.perm.now) x) (range_with_len 1 i)) last
