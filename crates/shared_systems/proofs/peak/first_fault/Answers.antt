use Rattle.std.proofs.Common.{List, get_or, length, false, ap, arith}
use Rattle.mp_system.specs.declared.system.Task.{Task}
use Rattle.shared_systems.specs.Shared.{HasTask}
use Rattle.shared_systems.proofs.Faults.{repeated-here, early-here, on-next}
use Rattle.shared_systems.proofs.peak.first_fault.Goals as goal

pub returns-then-places-task : goal.returns-then-places-task
returns-then-places-task c =
    let v = get_or c.args.order.now c.loop-i.i 0 in
    let tasks_are = ap (λ (l : List Task). length l) c.tasks-count.ensures.value in
    let task : HasTask c.args.system.now v = (omega (arith, c.if-task-eq0.false), omega (arith, c.if-task-count.false, tasks_are)) in
    repeated-here c.args.system.now c.args.order.now c.args.places.now (get_or c.args.early.now v false)
    c.requires.places c.tasks-count.ensures.system.items c.loop-i.i c.loop-i-test.true c.loop-i.invariant
    task c.if-places-task.true

pub returns-then-early-task : goal.returns-then-early-task
returns-then-early-task c =
    let v = get_or c.args.order.now c.loop-i.i 0 in
    let tasks_are = ap (λ (l : List Task). length l) c.tasks-count.ensures.value in
    let task : HasTask c.args.system.now v = (omega (arith, c.if-task-eq0.false), omega (arith, c.if-task-count.false, tasks_are)) in
    early-here c.args.system.now c.args.order.now c.args.places.now (get_or c.args.early.now v false)
    c.requires.places c.tasks-count.ensures.system.items c.loop-i.i c.loop-i-test.true c.loop-i.invariant
    task c.if-places-task.false (c.requires.early v) c.if-early-task.true

pub loop-i-preserved : goal.loop-i-preserved
loop-i-preserved c =
    let v = get_or c.args.order.now c.loop-i.i 0 in
    let tasks_are = ap (λ (l : List Task). length l) c.tasks-count.ensures.value in
    let task : HasTask c.args.system.now v = (omega (arith, c.if-task-eq0.false), omega (arith, c.if-task-count.false, tasks_are)) in
    on-next c.args.system.now c.args.order.now c.args.places.now (get_or c.args.early.now v false)
    c.requires.places c.tasks-count.ensures.system.items c.loop-i.i c.loop-i-test.true c.loop-i.invariant
    task c.if-places-task.false (c.requires.early v) c.if-early-task.false
