use Rattle.std.proofs.Common.{◌-◌, ◌+◌, List, get_or, ap, ◌∙◌, arith}
use Rattle.mp_system.specs.declared.system.Task.{Task}
use Rattle.shared_systems.proofs.Freeing.{reaches-next}
use Rattle.shared_systems.proofs.PeakSteps.{no_task, memory_small, output_small, extra_small, freed_fits, memory_after, running_is}
use Rattle.shared_systems.proofs.peak.peak_along.Goals as goal

pub overflow_add-running : goal.overflow_add-running
overflow_add-running c =
    let o = c.args.order.now in
    let extra = ap (λ (l : List Task). (get_or l (get_or o c.loop-i.i 0 - 1) no_task).extra) c.tasks-tasks.ensures.value in
    let small = extra_small c.args.system.now c.tasks-tasks.ensures.system o c.requires.traversal c.loop-i.i
    c.loop-i-test.true c.args.outputs.now c.args.freed.now c.requires.outputs.1 c.requires.freed.1
    c.loop-i.memory c.loop-i.peak c.loop-i.invariant in
    let out = output_small c.args.system.now c.tasks-tasks.ensures.system o c.requires.traversal c.loop-i.i
    c.loop-i-test.true c.args.outputs.now c.args.freed.now c.requires.outputs.1 c.requires.freed.1
    c.loop-i.memory c.loop-i.peak c.loop-i.invariant in
    omega (arith, extra, small, out)

pub overflow_add-running-in-loop-i : goal.overflow_add-running-in-loop-i
overflow_add-running-in-loop-i c =
    let o = c.args.order.now in
    let extra = ap (λ (l : List Task). (get_or l (get_or o c.loop-i.i 0 - 1) no_task).extra) c.tasks-tasks.ensures.value in
    let small = extra_small c.args.system.now c.tasks-tasks.ensures.system o c.requires.traversal c.loop-i.i
    c.loop-i-test.true c.args.outputs.now c.args.freed.now c.requires.outputs.1 c.requires.freed.1
    c.loop-i.memory c.loop-i.peak c.loop-i.invariant in
    let out = output_small c.args.system.now c.tasks-tasks.ensures.system o c.requires.traversal c.loop-i.i
    c.loop-i-test.true c.args.outputs.now c.args.freed.now c.requires.outputs.1 c.requires.freed.1
    c.loop-i.memory c.loop-i.peak c.loop-i.invariant in
    let memory = memory_small c.args.system.now c.tasks-tasks.ensures.system o c.requires.traversal
    c.loop-i.i c.loop-i-test.true c.args.outputs.now c.args.freed.now c.requires.outputs.1 c.requires.freed.1
    c.loop-i.memory c.loop-i.peak c.loop-i.invariant in
    omega (arith, extra, small, out, memory)

pub overflow_add-memory : goal.overflow_add-memory
overflow_add-memory c =
    let out = output_small c.args.system.now c.tasks-tasks.ensures.system c.args.order.now c.requires.traversal
    c.loop-i.i c.loop-i-test.true c.args.outputs.now c.args.freed.now c.requires.outputs.1 c.requires.freed.1
    c.loop-i.memory c.loop-i.peak c.loop-i.invariant in
    let memory = memory_small c.args.system.now c.tasks-tasks.ensures.system c.args.order.now c.requires.traversal
    c.loop-i.i c.loop-i-test.true c.args.outputs.now c.args.freed.now c.requires.outputs.1 c.requires.freed.1
    c.loop-i.memory c.loop-i.peak c.loop-i.invariant in
    omega (arith, out, memory)

pub overflow_sub-memory : goal.overflow_sub-memory
overflow_sub-memory c =
    freed_fits c.args.system.now c.tasks-tasks.ensures.system c.args.order.now c.requires.traversal
    c.loop-i.i c.loop-i-test.true c.args.outputs.now c.args.freed.now c.requires.outputs.1 c.requires.freed.1
    c.loop-i.memory c.loop-i.peak c.loop-i.invariant

pub loop-i-preserved : goal.loop-i-preserved
loop-i-preserved c =
    let o = c.args.order.now in
    let i = c.loop-i.i in
    let task = ap (λ (l : List Task). get_or l (get_or o i 0 - 1) no_task) c.tasks-tasks.ensures.value in
    let after = memory_after c.args.system.now c.tasks-tasks.ensures.system o c.requires.traversal
    i c.loop-i-test.true c.args.outputs.now c.args.freed.now c.requires.outputs.1 c.requires.freed.1
    c.loop-i.memory c.loop-i.peak c.loop-i.invariant in
    let running = running_is c.args.system.now c.tasks-tasks.ensures.system o c.requires.traversal
    i c.loop-i-test.true c.args.outputs.now c.args.freed.now c.requires.outputs.1 c.requires.freed.1
    c.loop-i.memory c.loop-i.peak c.loop-i.invariant in
    rw (c.max-peak.ensures, c.max.ensures)
    (reaches-next c.args.system.now o i c.loop-i.memory c.loop-i.peak _ _ c.loop-i-test.true c.loop-i.invariant after
    (ap (λ (t : Task). c.loop-i.memory + (t.extra + get_or c.args.outputs.now (get_or o i 0) 0 - t.share)) task ∙ running))
