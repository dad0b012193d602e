use Rattle.std.proofs.Common.{length, arith, ap, refl}
use Rattle.mp_system.proofs.Orders.{reaches-start, reaches-next, fault-here, fault-missing, traversal-end, peak-end, fault-no_traversal}
use Rattle.mp_system.proofs.order.replay.Goals as goal

pub loop-i-init : goal.loop-i-init
loop-i-init c =
    let begins = c.in_ok-replay.ensures in
    reaches-start c.args.system.now c.args.order.now _ _ begins.system begins.none c.memory-peak.ensures

pub returns-in-Err-clause-fault : goal.returns-in-Err-clause-fault
returns-in-Err-clause-fault c =
    let some = fault-here c.args.system.now c.args.order.now c.loop-i.i c.loop-i.peak _ c.loop-i.replay c.loop-i.invariant
    (omega arith) refl c.in-Err.kind c.in-Err.ensures.fault in
    (some, fault-no_traversal c.args.system.now c.args.order.now _ some)

pub loop-i-preserved : goal.loop-i-preserved
loop-i-preserved c =
    rw (c.max-peak.ensures, c.max.ensures)
    (reaches-next c.args.system.now c.args.order.now c.loop-i.i c.loop-i.peak _ c.loop-i.replay c.loop-i.invariant
    (omega arith) refl c.step.new.self c.in-Ok.running _
    c.in-Ok.ensures.ran.0 c.in-Ok.ensures.ran.1 c.step.ensures.system c.in-Ok.ensures.next c.memory.ensures)

pub returns-then-order-tasks-clause-fault : goal.returns-then-order-tasks-clause-fault
returns-then-order-tasks-clause-fault c =
    let some = fault-missing c.args.system.now c.args.order.now c.loop-i.i c.loop-i.peak c.loop-i.replay c.loop-i.invariant
    (omega arith) (omega (arith, ap length c.tasks.ensures.value)) in
    (some, fault-no_traversal c.args.system.now c.args.order.now _ some)

pub returns-clause-peak : goal.returns-clause-peak
returns-clause-peak c = (
  traversal-end c.args.system.now c.args.order.now c.loop-i.i c.loop-i.peak c.loop-i.replay c.loop-i.invariant
      (omega arith) (omega (arith, ap length c.tasks.ensures.value)),
  peak-end c.args.system.now c.args.order.now c.loop-i.i c.loop-i.peak c.loop-i.replay c.loop-i.invariant (omega arith),
)
