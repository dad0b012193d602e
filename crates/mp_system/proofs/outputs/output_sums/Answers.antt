use Rattle.std.proofs.Common.{arith, length}
use Rattle.mp_system.proofs.Sums.{items_within, items_total, AreSums-some, AreSums-none, AreSums-fits}
use Rattle.mp_system.proofs.outputs.output_sums.Goals as goal
use Rattle.mp_system.proofs.outputs.output_sums.Goals.{in-Some, in_default}

pub overflow_add-index_mut : goal.overflow_add-index_mut
overflow_add-index_mut c =
    let within = items_within c.args.system.now _ c.items-item-items.ensures.value
    c.items-item-items.ensures.system c.loop-item.item-index _ c.loop-item-test.true in
    let producer = within.producer _ c.in-Some.is in
    let fits = AreSums-fits c.loop-item.sums.items c.items-item-items.result.now (length c.args.system.now.tasks)
    c.loop-item.item-index _ c.loop-item-test.true c.loop-item.invariant.sums c.in-Some.producer c.index_mut.result.now
    (omega (arith, c.loop-item.sums.ok, c.loop-item.invariant.len)) c.in-Some.is producer.0 producer.1 c.index_mut.ensures.value in
    omega (arith, fits, items_total c.args.system.now _ c.items-item-items.ensures.value c.items-item-items.ensures.system)

pub loop-item-preserved : goal.loop-item-preserved
loop-item-preserved c = elim c.match-item.branch [
  | in-Some w ↦ rw w.sums-is (
      let within = items_within c.args.system.now _ c.items-item-items.ensures.value
      c.items-item-items.ensures.system c.loop-item.item-index _ c.loop-item-test.true in
      let producer = within.producer _ w.in-Some.is in
      record {
        len = c.loop-item.invariant.len;
        sums = AreSums-some c.loop-item.sums.items c.items-item-items.result.now (length c.args.system.now.tasks)
            c.loop-item.item-index _ c.loop-item-test.true c.loop-item.invariant.sums w.in-Some.producer w.index_mut.result.now
            (omega (arith, c.loop-item.sums.ok, c.loop-item.invariant.len)) w.in-Some.is producer.0 producer.1 w.index_mut.ensures.value;
      })
  | in_default w ↦ rw w.sums-is (record {
    len = c.loop-item.invariant.len;
    sums = AreSums-none c.loop-item.sums.items c.items-item-items.result.now
        (length c.args.system.now.tasks) c.loop-item.item-index _ c.loop-item-test.true c.loop-item.invariant.sums w.in_default.is;
  })
]
