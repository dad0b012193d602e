use Rattle.std.proofs.Common.{◌≡◌, length, arith, subst}
use Rattle.elim_tree.specs.Forests.{Rooted, IsTaken}
use Rattle.elim_tree.proofs.RowsTaken.{can_link, more_taken, none_taken}
use Rattle.elim_tree.proofs.tree.take_row.Goals as goal
use Rattle.elim_tree.proofs.tree.take_row.Goals.{then-column-k, else-column-k}

pub link-requires-clause-start : goal.link-requires-clause-start
link-requires-clause-start c =
    let forest = c.requires.start.0 in
    let can = c.requires.start.1 in
    let t = c.loop-vertex.invariant forest can in (
      record { joined = forest.joined; root = t.0 },
      can_link forest c.args.k c.loop-vertex.vertex-index c.place-column.result
          c.args.row.now c.args.perm.now c.args.parents.now c.args.ancestors.now
          c.loop-vertex.parents c.loop-vertex.ancestors can c.loop-vertex-test.true t c.place-column.ensures.value c.if-column-k.true,
    )

pub loop-vertex-preserved : goal.loop-vertex-preserved
loop-vertex-preserved c = λ forest can.
    let t = c.loop-vertex.invariant forest can in
    elim c.if-column-k.branch [
      | then-column-k b ↦
          let forest' : Rooted = record { joined = forest.joined; root = t.0 } in
          let start = can_link forest c.args.k c.loop-vertex.vertex-index c.place-column.result
          c.args.row.now c.args.perm.now c.args.parents.now c.args.ancestors.now
          c.loop-vertex.parents c.loop-vertex.ancestors can c.loop-vertex-test.true t c.place-column.ensures.value b.if-column-k.true in
          rw (b.parents-is, b.ancestors-is)
          (more_taken forest c.args.k c.loop-vertex.vertex-index c.place-column.result c.args.row.now c.args.perm.now
          c.loop-vertex.parents c.loop-vertex.ancestors t c.place-column.ensures.value b.link.new.parents b.link.new.ancestors
          (b.link.ensures forest' start))
      | else-column-k b ↦ rw (b.parents-is, b.ancestors-is)
          (none_taken forest c.args.k c.loop-vertex.vertex-index c.place-column.result c.args.row.now c.args.perm.now
          c.loop-vertex.parents c.loop-vertex.ancestors t c.place-column.ensures.value (λ below. absurd (omega arith)))
    ]

pub returns : goal.returns
returns c = λ forest can.
    let end : c.loop-vertex.vertex-index ≡ length c.args.row.now = omega arith in
    subst (λ n. IsTaken forest c.args.k c.args.row.now c.args.perm.now n c.loop-vertex.parents c.loop-vertex.ancestors) end
    (c.loop-vertex.invariant forest can)
