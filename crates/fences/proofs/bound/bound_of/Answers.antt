use Rattle.std.proofs.Common.{arith, length, sym, ap, ◌∙◌}
use Rattle.mp_system.specs.declared.system.Task.{Task}
use Rattle.fences.proofs.Judging.{carried_ends, carried_few, adds_drawn}
use Rattle.fences.proofs.Relieving.{bound_is}
use Rattle.fences.proofs.bound.bound_of.Goals as goal

pub sums_of-requires-2-clause-ends : goal.sums_of-requires-2-clause-ends
sums_of-requires-2-clause-ends c = carried_ends c.args.system.now c.tasks-tasks.ensures.system c.args.amounts.now c.requires.amounts c.requires.few c.tasks-tasks.result.now c.tasks-tasks.ensures.value c.items-items.result.now c.items-items.ensures.value c.deref.result.now (c.deref.ensures.value ∙ c.in_ok-carried.ensures)

pub sums_of-requires-2-clause-total : goal.sums_of-requires-2-clause-total
sums_of-requires-2-clause-total c = carried_few c.args.system.now c.tasks-tasks.ensures.system c.args.amounts.now c.requires.amounts c.requires.few c.tasks-tasks.result.now c.tasks-tasks.ensures.value c.items-items.result.now c.items-items.ensures.value c.deref.result.now (c.deref.ensures.value ∙ c.in_ok-carried.ensures)

pub start_size-bound-requires : goal.start_size-bound-requires
start_size-bound-requires c = carried_few c.args.system.now c.tasks-tasks.ensures.system c.args.amounts.now c.requires.amounts c.requires.few c.tasks-tasks.result.now c.tasks-tasks.ensures.value c.items-items.result.now c.items-items.ensures.value c.deref-2.result.now (c.deref-2.ensures.value ∙ c.in_ok-carried.ensures)

pub drawn-bound-requires-clause-share : goal.drawn-bound-requires-clause-share
drawn-bound-requires-clause-share c =
    let d : Task = record { extra = 0; share = 0; time = 0 } in
    let row = adds_drawn c.args.system.now c.tasks-tasks.ensures.system c.args.amounts.now c.requires.amounts c.requires.few c.tasks-tasks.result.now c.tasks-tasks.ensures.value c.items-items.result.now c.items-items.ensures.value c.deref.result.now (c.deref.ensures.value ∙ c.in_ok-carried.ensures)
    c.in_ok-sizes.sizes.inputs.items c.in_ok-sizes.sizes.outputs.items c.in_ok-handed.handed.inputs.items c.in_ok-handed.handed.outputs.items c.in_ok-sizes.ensures c.in_ok-handed.ensures
    c.args.room c.loop-i.i c.loop-i.bound c.index.result.now c.index-in-loop-i.result.now c.index-in-loop-i-2.result.now c.index-in-loop-i-3.result.now d c.loop-i-test.true c.index.ensures c.index-in-loop-i.ensures c.index-in-loop-i-2.ensures c.index-in-loop-i-3.ensures c.loop-i.invariant in
    row.share

pub drawn-bound-requires-clause-fits : goal.drawn-bound-requires-clause-fits
drawn-bound-requires-clause-fits c =
    let d : Task = record { extra = 0; share = 0; time = 0 } in
    let row = adds_drawn c.args.system.now c.tasks-tasks.ensures.system c.args.amounts.now c.requires.amounts c.requires.few c.tasks-tasks.result.now c.tasks-tasks.ensures.value c.items-items.result.now c.items-items.ensures.value c.deref.result.now (c.deref.ensures.value ∙ c.in_ok-carried.ensures)
    c.in_ok-sizes.sizes.inputs.items c.in_ok-sizes.sizes.outputs.items c.in_ok-handed.handed.inputs.items c.in_ok-handed.handed.outputs.items c.in_ok-sizes.ensures c.in_ok-handed.ensures
    c.args.room c.loop-i.i c.loop-i.bound c.index.result.now c.index-in-loop-i.result.now c.index-in-loop-i-2.result.now c.index-in-loop-i-3.result.now d c.loop-i-test.true c.index.ensures c.index-in-loop-i.ensures c.index-in-loop-i-2.ensures c.index-in-loop-i-3.ensures c.loop-i.invariant in
    row.fits

pub overflow_add-bound : goal.overflow_add-bound
overflow_add-bound c =
    let d : Task = record { extra = 0; share = 0; time = 0 } in
    let row = adds_drawn c.args.system.now c.tasks-tasks.ensures.system c.args.amounts.now c.requires.amounts c.requires.few c.tasks-tasks.result.now c.tasks-tasks.ensures.value c.items-items.result.now c.items-items.ensures.value c.deref.result.now (c.deref.ensures.value ∙ c.in_ok-carried.ensures)
    c.in_ok-sizes.sizes.inputs.items c.in_ok-sizes.sizes.outputs.items c.in_ok-handed.handed.inputs.items c.in_ok-handed.handed.outputs.items c.in_ok-sizes.ensures c.in_ok-handed.ensures
    c.args.room c.loop-i.i c.loop-i.bound c.index.result.now c.index-in-loop-i.result.now c.index-in-loop-i-2.result.now c.index-in-loop-i-3.result.now d c.loop-i-test.true c.index.ensures c.index-in-loop-i.ensures c.index-in-loop-i-2.ensures c.index-in-loop-i-3.ensures c.loop-i.invariant in
    omega (arith, row.next_fits, c.drawn-bound.ensures)

pub loop-i-preserved : goal.loop-i-preserved
loop-i-preserved c =
    let d : Task = record { extra = 0; share = 0; time = 0 } in
    let row = adds_drawn c.args.system.now c.tasks-tasks.ensures.system c.args.amounts.now c.requires.amounts c.requires.few c.tasks-tasks.result.now c.tasks-tasks.ensures.value c.items-items.result.now c.items-items.ensures.value c.deref.result.now (c.deref.ensures.value ∙ c.in_ok-carried.ensures)
    c.in_ok-sizes.sizes.inputs.items c.in_ok-sizes.sizes.outputs.items c.in_ok-handed.handed.inputs.items c.in_ok-handed.handed.outputs.items c.in_ok-sizes.ensures c.in_ok-handed.ensures
    c.args.room c.loop-i.i c.loop-i.bound c.index.result.now c.index-in-loop-i.result.now c.index-in-loop-i-2.result.now c.index-in-loop-i-3.result.now d c.loop-i-test.true c.index.ensures c.index-in-loop-i.ensures c.index-in-loop-i-2.ensures c.index-in-loop-i-3.ensures c.loop-i.invariant in
    omega (arith, row.next, c.drawn-bound.ensures)

pub returns : goal.returns
returns c =
    let all = ap (length {A = Task}) c.tasks-tasks.ensures.value in
    c.loop-i.invariant
    ∙ sym (bound_is c.args.system.now c.args.room c.args.amounts.now c.loop-i.i (omega (arith, c.loop-i-test.false, c.loop-i.auto.i-end, all)))
