use Rattle.std.proofs.Common.{◌≡◌, length, arith, sym, slice_index, subst}
use Rattle.elim_tree.specs.Forests.{Rooted, IsTaken}
use Rattle.elim_tree.proofs.RowsTaken.{can_link, more_taken, head_taken}
use Rattle.elim_tree.proofs.tree.take_head.Goals as goal

pub link-requires-clause-start : goal.link-requires-clause-start
link-requires-clause-start c =
    let forest = c.requires.start.0 in
    let order = c.requires.start.1 in
    let in_turn = c.requires.start.2 in
    let can = c.requires.start.3 in
    let t = c.loop-column.invariant forest order in_turn can in (
      record { joined = forest.joined; root = t.0 },
      can_link forest c.args.k c.loop-column.column-index
          (slice_index c.args.row.now c.loop-column.column-index) c.args.row.now order c.args.parents.now c.args.ancestors.now
          c.loop-column.parents c.loop-column.ancestors can c.loop-column-test.true t
          (sym (in_turn c.loop-column.column-index c.loop-column-test.true)) c.if-k-column.false,
    )

pub returns-then-k-column : goal.returns-then-k-column
returns-then-k-column c = λ forest order in_turn can.
    head_taken forest c.args.k c.loop-column.column-index c.args.row.now order
    c.loop-column.parents c.loop-column.ancestors c.requires.rising in_turn
    c.loop-column-test.true c.if-k-column.true (c.loop-column.invariant forest order in_turn can)

pub loop-column-preserved : goal.loop-column-preserved
loop-column-preserved c = λ forest order in_turn can.
    let t = c.loop-column.invariant forest order in_turn can in
    let forest' : Rooted = record { joined = forest.joined; root = t.0 } in
    let column = slice_index c.args.row.now c.loop-column.column-index in
    let own = sym (in_turn c.loop-column.column-index c.loop-column-test.true) in
    let start = can_link forest c.args.k c.loop-column.column-index column c.args.row.now order c.args.parents.now c.args.ancestors.now
    c.loop-column.parents c.loop-column.ancestors can c.loop-column-test.true t own c.if-k-column.false in
    more_taken forest c.args.k c.loop-column.column-index column c.args.row.now order c.loop-column.parents c.loop-column.ancestors t own
    c.link.new.parents c.link.new.ancestors (c.link.ensures forest' start)

pub returns : goal.returns
returns c = λ forest order in_turn can.
    let end : c.loop-column.column-index ≡ length c.args.row.now = omega arith in
    subst (λ n. IsTaken forest c.args.k c.args.row.now order n c.loop-column.parents c.loop-column.ancestors) end
    (c.loop-column.invariant forest order in_turn can)
