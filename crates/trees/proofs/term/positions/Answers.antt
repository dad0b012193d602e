use Rattle.std.proofs.Common.{refl, arith}
use Rattle.trees.proofs.ChildLemmas.{row-length, row-few}
use Rattle.trees.proofs.PositionLemmas.{position-more}
use Rattle.trees.proofs.term.positions.Goals as goal

pub push_beside-requires : goal.push_beside-requires
push_beside-requires c =
    let node = c.requires.names c.loop-v.v-index 0 c.loop-v-test.true in
    omega (arith, row-few c.args.nodes.now c.args.children.now c.requires.children _ node.1 c.row.result.now c.row.ensures, c.requires.few)

pub loop-v-preserved : goal.loop-v-preserved
loop-v-preserved c =
    let node = c.requires.names c.loop-v.v-index 0 c.loop-v-test.true in
    position-more c.args.nodes.now c.args.names.now c.loop-v.v-index _ _ _ _ _ _ c.loop-v-test.true refl
    (row-length c.args.nodes.now c.args.children.now c.requires.children _ node.1 c.row.result.now c.row.ensures)
    c.loop-v.invariant c.in_ok-push_beside.ensures c.in_ok-push.ensures.items c.in_ok-push-2.ensures.items

pub push_beside-requires-2 : goal.push_beside-requires-2
push_beside-requires-2 c =
    omega (
      arith,
      row-few c.args.nodes.now c.args.children.now c.requires.children 0 (omega arith) c.row-2.result.now c.row-2.ensures,
      c.requires.few,
    )
