use Rattle.std.proofs.Common.{◌≡◌, ◌<◌, ◌≤◌, ℕ, true, length, arith, sym, ◌∙◌, subst, ap, add-one, slice_index}
use Rattle.std.specs.List.Sorted.{IsStrictlyIncreasing}
use Rattle.patterns.specs.Pattern.{is_joined, neighbours_of}
use Rattle.permutations.specs.Perm.{vertex_at, place_of}
use Rattle.ordering.specs.Fill.{renumbered}
use Rattle.elim_tree.specs.Forests.{Rooted, IsInTurn, CanTake}
use Rattle.elim_tree.proofs.Growth.{pattern_by_columns, vertex_in_row, can_take, taken, grown_firsts, first_column}
use Rattle.elim_tree.proofs.tree.grow.Goals as goal
use Rattle.elim_tree.proofs.tree.grow.Goals.{After-neighbours-row, then-in_turn, else-in_turn}

vertex_back : (c : After-neighbours-row) → (v : ℕ) → v ≤ length c.args.perm.now → vertex_at c.args.perm.now (place_of c.args.perm.now v) ≡ v
vertex_back c = c.places_are_inverse.ensures.vertex (length c.args.perm.now) c.args.perm.now c.keeps.ensures

place_back : (c : After-neighbours-row) → (k : ℕ) → k ≤ length c.args.perm.now → place_of c.args.perm.now (vertex_at c.args.perm.now k) ≡ k
place_back c = c.places_are_inverse.ensures.place (length c.args.perm.now) c.args.perm.now c.keeps.ensures

row_is : (c : After-neighbours-row) → c.neighbours-row.result.now ≡ neighbours_of c.args.pattern.now (vertex_at c.args.perm.now c.loop-k.k)
row_is c = c.neighbours-row.ensures ∙ ap (neighbours_of c.args.pattern.now) c.at.ensures.value

vertices_within : (c : After-neighbours-row) → (j : ℕ) → j < length c.neighbours-row.result.now
    → slice_index c.neighbours-row.result.now j ≤ length c.args.perm.now
vertices_within c =
    let rows = c.args.pattern.now in
    let order = c.args.perm.now in
    subst (λ xs. (j : ℕ) → j < length xs → slice_index xs j ≤ length order) (sym (row_is c))
    (vertex_in_row rows order c.rows-k-end.ensures.pattern c.requires.len (vertex_back c) (place_back c) (vertex_at order c.loop-k.k))

-- the pattern by columns, and the roots so far
abbrev forest_is : After-neighbours-row → Rooted
forest_is c = record { joined = renumbered (is_joined c.args.pattern.now) c.args.perm.now; root = c.loop-k.invariant.0 }

may_take : (c : After-neighbours-row)
    → CanTake (forest_is c) c.loop-k.k c.neighbours-row.result.now c.args.perm.now c.loop-k.parents c.loop-k.ancestors
may_take c =
    can_take c.args.pattern.now c.args.perm.now c.rows-k-end.ensures.pattern c.requires.len
    (vertex_back c) (place_back c) c.loop-k.k c.loop-k.invariant.0
    c.loop-k.parents c.loop-k.ancestors c.neighbours-row.result.now (row_is c) c.loop-k.invariant.1

in_turn : (c : After-neighbours-row) → c.is_in_turn-in_turn.result ≡ true → IsInTurn c.neighbours-row.result.now c.args.perm.now
in_turn c so j lt = c.is_in_turn-in_turn.ensures so (slice_index c.neighbours-row.result.now j) (vertices_within c j lt)

pub loop-k-init : goal.loop-k-init
loop-k-init c = (
  λ x. x,
  first_column (renumbered (is_joined c.args.pattern.now) c.args.perm.now)
      (pattern_by_columns c.args.pattern.now c.args.perm.now c.rows-k-end.ensures.pattern)
      c.args.parents.now c.args.ancestors.now c.requires.clear,
)

pub take_head-requires-clause-rising : goal.take_head-requires-clause-rising
take_head-requires-clause-rising c =
    subst IsStrictlyIncreasing (sym (row_is (goal.at.take_head-requires-clause-rising c).After-neighbours-row))
    (c.rows-k-end.ensures.pattern.rising (vertex_at c.args.perm.now c.loop-k.k))

pub take_head-requires-clause-start : goal.take_head-requires-clause-start
take_head-requires-clause-start c =
    let before = (goal.at.take_head-requires-clause-start c).After-neighbours-row in
    (forest_is before, c.args.perm.now, in_turn before c.if-in_turn.true, may_take before)

pub take_row-requires-clause-vertices : goal.take_row-requires-clause-vertices
take_row-requires-clause-vertices c = vertices_within (goal.at.take_row-requires-clause-vertices c).After-neighbours-row

pub take_row-requires-clause-start : goal.take_row-requires-clause-start
take_row-requires-clause-start c =
    let before = (goal.at.take_row-requires-clause-start c).After-neighbours-row in
    (forest_is before, may_take before)

pub loop-k-preserved : goal.loop-k-preserved
loop-k-preserved c =
    let rows = c.args.pattern.now in
    let order = c.args.perm.now in
    let before = (goal.at.loop-k-preserved c).After-neighbours-row in
    let can = may_take before in
    elim c.if-in_turn.branch [
      | then-in_turn b ↦ rw (add-one, b.parents-is, b.ancestors-is)
          (taken rows order c.rows-k-end.ensures.pattern c.requires.len (vertex_back before) (place_back before)
          c.loop-k.k c.loop-k.invariant.0 b.take_head.new.parents b.take_head.new.ancestors c.neighbours-row.result.now (row_is before)
          (b.take_head.ensures (forest_is before) order (in_turn before b.if-in_turn.true) can))
      | else-in_turn b ↦ rw (add-one, b.parents-is, b.ancestors-is)
          (taken rows order c.rows-k-end.ensures.pattern c.requires.len (vertex_back before) (place_back before)
          c.loop-k.k c.loop-k.invariant.0 b.take_row.new.parents b.take_row.new.ancestors c.neighbours-row.result.now (row_is before)
          (b.take_row.ensures (forest_is before) can))
    ]

pub returns-clause-firsts : goal.returns-clause-firsts
returns-clause-firsts c =
    let order = c.args.perm.now in
    grown_firsts c.args.pattern.now order c.rows-k-end.ensures.pattern c.requires.len
    (c.places_are_inverse.ensures.vertex (length order) order c.keeps.ensures)
    (c.places_are_inverse.ensures.place (length order) order c.keeps.ensures) c.loop-k.k
    (omega arith) c.loop-k.invariant.0 c.loop-k.parents c.loop-k.ancestors c.loop-k.invariant.1
