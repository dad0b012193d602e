use Rattle.std.proofs.Common.{◌≡◌, ◌+◌, ◌-◌, ◌<◌, ℕ, length, arith, ◌∙◌, ap, inl, inr, slice_index}
use Rattle.std.proofs.lemmas.Bool.{cases_lt}
use Rattle.std.proofs.lemmas.List.{get_or_past}
use Rattle.patterns.specs.Pattern.{is_joined, neighbours_of}
use Rattle.permutations.specs.Perm.{vertex_at}
use Rattle.ordering.specs.Fill.{renumbered}
use Rattle.column_counts.proofs.FactorRows.{IsFactor, AreRows, few_columns, long_parents, vertex_in_list}
use Rattle.column_counts.proofs.SpanRows.{spans, first_some, first_ancestors, parent_low}
use Rattle.column_counts.proofs.ColumnRows.{none_taken, short_row, can_take}
use Rattle.column_counts.proofs.LeafCounts.{are_balanced}
use Rattle.column_counts.proofs.leaves.Leaves.take_columns.Goals as goal
use Rattle.column_counts.proofs.leaves.Leaves.take_columns.Goals.{After-rows-j-end}

rows_are : (c : After-rows-j-end) → AreRows c.args.pattern.now c.args.perm.now
rows_are c = record {
  pattern = c.rows-j-end.ensures.pattern;
  same = c.requires.len;
  vertex_back = c.places_are_inverse.ensures.vertex (length c.args.perm.now) c.args.perm.now c.keeps.ensures;
  place_back = c.places_are_inverse.ensures.place (length c.args.perm.now) c.args.perm.now c.keeps.ensures;
}

factor_is : (c : After-rows-j-end)
    → IsFactor (renumbered (is_joined c.args.pattern.now) c.args.perm.now) (length c.args.perm.now) c.args.parents.now
factor_is c =
    let joined = renumbered (is_joined c.args.pattern.now) c.args.perm.now in
    let pattern = c.renumbered_pattern.ensures.pattern c.args.pattern.now c.args.perm.now c.rows-j-end.ensures.pattern in
    let inside = c.renumbered_pattern.ensures.within c.args.pattern.now c.args.perm.now c.rows-j-end.ensures.pattern in
    record {
      pattern = pattern;
      inside = inside;
      forest = c.keeps-2.ensures;
      tree = c.requires.tree;
      subtrees = λ i x lt. c.row_subtrees.ensures joined (length c.args.perm.now) i x pattern inside lt;
      first = c.parent_is_first.ensures.parent joined (length c.args.perm.now);
      later = c.no_earlier_row.ensures joined;
    }

long_firsts : (c : After-rows-j-end) → length c.args.firsts.now ≡ length c.args.perm.now + 1
long_firsts c = c.requires.long
    ∙ ap (λ m. m + 1)
    (long_parents (renumbered (is_joined c.args.pattern.now) c.args.perm.now) (length c.args.perm.now) c.args.parents.now (factor_is c))

pub loop-j-init : goal.loop-j-init
loop-j-init c =
    let t = c.args.self.now in
    let empty = c.requires.empty in
    let long = empty.long in
    let long_ancestors = long.ancestors in
    let forest = c.keeps-2.ensures in
    let len = c.requires.long in
    let past : (x : ℕ) → length c.args.parents.now < x → slice_index t.ancestors.table.items x ≡ 0 =
    λ x lt. get_or_past t.ancestors.table.items x 0 (omega arith) in
    record {
      ready = record {
        long = record {
          ancestors = omega arith;
          last = let l = long.last in omega arith;
          leaves = let l = long.leaves in omega arith;
          meetings = let l = long.meetings in omega arith;
        };
        inside = λ x. elim (cases_lt (length c.args.parents.now) x) [
          | inl lt ↦ (let e = past x lt in omega arith)
          | inr le ↦ (let e = empty.ancestors x le in let low = parent_low c.args.parents.now forest x in omega arith)
        ];
        ancestors = first_ancestors c.args.parents.now forest c.args.firsts.now len c.requires.firsts
            (slice_index t.ancestors.table.items) empty.ancestors past 1;
      };
      small = λ x. let z = empty.clear x in let l = z.1 in let m = z.2 in (omega arith, omega arith);
      leaves = none_taken (renumbered (is_joined c.args.pattern.now) c.args.perm.now)
          c.args.firsts.now c.args.perm.now c.args.parents.now t empty;
    }

pub take_column-requires-clause-len : goal.take_column-requires-clause-len
take_column-requires-clause-len c = long_firsts (goal.at.take_column-requires-clause-len c).After-rows-j-end

pub take_column-requires-clause-places : goal.take_column-requires-clause-places
take_column-requires-clause-places c =
    let before = (goal.at.take_column-requires-clause-places c).After-rows-j-end in
    let rows = c.args.pattern.now in
    let order = c.args.perm.now in
    let are = rows_are before in
    let few = few_columns rows order are in
    let same = are.same in
    let long = long_parents (renumbered (is_joined rows) order) (length order) c.args.parents.now (factor_is before) in
    let short = short_row rows are.pattern (vertex_at order c.loop-j.j) in
    let row : c.neighbours-row.result.now ≡ neighbours_of rows (vertex_at order c.loop-j.j) =
    c.neighbours-row.ensures ∙ ap (neighbours_of rows) c.at.ensures.value in
    let listed = ap length row in
    let some = first_some c.args.parents.now c.keeps-2.ensures c.args.firsts.now c.requires.long c.requires.firsts c.loop-j.j
    (omega arith) (omega arith) in
    let len = c.requires.long in
    (some, omega arith, omega arith, omega arith)

pub take_column-requires-clause-vertices : goal.take_column-requires-clause-vertices
take_column-requires-clause-vertices c =
    vertex_in_list c.args.pattern.now c.args.perm.now
    (rows_are (goal.at.take_column-requires-clause-vertices c).After-rows-j-end) c.loop-j.j c.neighbours-row.result.now
    (c.neighbours-row.ensures ∙ ap (neighbours_of c.args.pattern.now) c.at.ensures.value)

pub take_column-requires-clause-spans : goal.take_column-requires-clause-spans
take_column-requires-clause-spans c = spans c.args.parents.now c.keeps-2.ensures c.args.firsts.now c.requires.long c.requires.firsts

pub take_column-requires-clause-row : goal.take_column-requires-clause-row
take_column-requires-clause-row c =
    let before = (goal.at.take_column-requires-clause-row c).After-rows-j-end in (
      renumbered (is_joined c.args.pattern.now) c.args.perm.now,
      can_take c.args.pattern.now c.args.perm.now (rows_are before) c.args.parents.now
          (factor_is before) c.args.firsts.now (long_firsts before) c.requires.firsts
          c.loop-j.j c.neighbours-row.result.now (c.neighbours-row.ensures ∙ ap (neighbours_of c.args.pattern.now) c.at.ensures.value)
          c.loop-j.self c.loop-j.invariant.leaves,
    )

pub loop-j-preserved : goal.loop-j-preserved
loop-j-preserved c =
    let before = (goal.at.loop-j-preserved c).After-rows-j-end in
    let can = can_take c.args.pattern.now c.args.perm.now (rows_are before) c.args.parents.now
    (factor_is before) c.args.firsts.now (long_firsts before) c.requires.firsts
    c.loop-j.j c.neighbours-row.result.now
    (c.neighbours-row.ensures ∙ ap (neighbours_of c.args.pattern.now) c.at.ensures.value) c.loop-j.self c.loop-j.invariant.leaves in
    let e : c.loop-j.j + 1 - 1 ≡ c.loop-j.j = omega arith in
    record {
      ready = c.take_column.ensures.ready;
      small = λ x. let s = c.take_column.ensures.small x in let l = s.0 in let m = s.1 in (omega arith, omega arith);
      leaves = c.take_column.ensures.taken (renumbered (is_joined c.args.pattern.now) c.args.perm.now) can;
    }

pub returns-clause-balanced : goal.returns-clause-balanced
returns-clause-balanced c =
    let before = (goal.at.returns-clause-balanced c).After-rows-j-end in
    are_balanced (renumbered (is_joined c.args.pattern.now) c.args.perm.now) (length c.args.perm.now) c.args.parents.now
    (factor_is before) c.args.firsts.now (long_firsts before) c.requires.firsts
    c.args.perm.now c.loop-j.self c.loop-j.j (let same = c.requires.len in omega arith) c.loop-j.invariant.leaves
