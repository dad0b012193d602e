use Rattle.std.proofs.Common.{◌+◌, get_or, arith, ◌∙◌}
use Rattle.std.proofs.lemmas.List.{length-set}
use Rattle.graphs.proofs.QueueLemmas.{no_arc, old-is, waits-small, waits-yes, waits-no}
use Rattle.graphs.proofs.queue.first_waits.Goals as goal
use Rattle.graphs.proofs.queue.first_waits.Goals.{then-arc-ne0, else-arc-ne0}

pub overflow_add-index_mut : goal.overflow_add-index_mut
overflow_add-index_mut c =
    let l = c.loop-arc in
    let arcs = c.args.arcs.now in
    let old = old-is c.args.count arcs l.waits.items l.arc-index c.loop-arc-test.true l.invariant.len
    c.requires.within l.invariant.waits c.index_mut.result.now c.index_mut.ensures.value in
    let small = waits-small c.args.count arcs l.waits.items l.arc-index c.loop-arc-test.true
    l.invariant.len c.requires.within l.invariant.waits (get_or arcs l.arc-index no_arc).to in
    omega (arith, old, small, c.loop-arc-test.true, c.requires.few)

pub loop-arc-preserved : goal.loop-arc-preserved
loop-arc-preserved c =
    let l = c.loop-arc in
    let arcs = c.args.arcs.now in
    elim c.if-arc-ne0.branch [
      | then-arc-ne0 w ↦ rw w.waits-is (record {
        len = length-set l.waits.items (get_or arcs l.arc-index no_arc).to (w.index_mut.result.now + 1) ∙ l.invariant.len;
        waits =
            waits-yes c.args.count arcs l.waits.items l.arc-index c.loop-arc-test.true l.invariant.len c.requires.within l.invariant.waits
            w.index_mut.result.now w.if-arc-ne0.true w.index_mut.ensures.value;
      })
      | else-arc-ne0 w ↦ rw w.waits-is (record {
        len = l.invariant.len;
        waits = waits-no c.args.count arcs l.waits.items l.arc-index c.loop-arc-test.true
            l.invariant.len c.requires.within l.invariant.waits w.if-arc-ne0.false;
      })
    ]
