use Rattle.std.proofs.Common.{◌≡◌, arith, length}
use Rattle.trees.proofs.ShareLemmas.{AreOuts-child, AreOuts-root, AreOuts-fits}
use Rattle.trees.proofs.shares.children_outs.Goals as goal
use Rattle.trees.proofs.shares.children_outs.Goals.{then-node-ne0, else-node-ne0}

pub overflow_add-index_mut : goal.overflow_add-index_mut
overflow_add-index_mut c =
    let len : length c.loop-node.outs.items ≡ length c.args.nodes.now = omega (arith, c.loop-node.outs.ok, c.loop-node.invariant.len) in
    let fits = AreOuts-fits c.loop-node.outs.items c.args.nodes.now c.loop-node.node-index
    c.index_mut.result.now _ c.loop-node-test.true len c.if-node-ne0.true
    (c.requires.parents c.loop-node.node-index _ c.loop-node-test.true) c.index_mut.ensures.value c.loop-node.invariant.sums in
    omega (arith, fits, c.requires.total)

pub loop-node-preserved : goal.loop-node-preserved
loop-node-preserved c =
    let len : length c.loop-node.outs.items ≡ length c.args.nodes.now = omega (arith, c.loop-node.outs.ok, c.loop-node.invariant.len) in
    elim c.if-node-ne0.branch [
      | then-node-ne0 w ↦ rw w.outs-is (record {
        len = c.loop-node.invariant.len;
        sums = AreOuts-child c.loop-node.outs.items c.args.nodes.now c.loop-node.node-index
            w.index_mut.result.now _ c.loop-node-test.true len w.if-node-ne0.true
            (c.requires.parents c.loop-node.node-index _ c.loop-node-test.true) w.index_mut.ensures.value c.loop-node.invariant.sums;
      })
      | else-node-ne0 w ↦ rw w.outs-is (record {
        len = c.loop-node.invariant.len;
        sums = AreOuts-root c.loop-node.outs.items c.args.nodes.now c.loop-node.node-index
            _ c.loop-node-test.true w.if-node-ne0.false c.loop-node.invariant.sums;
      })
    ]
