use Rattle.mp_system.proofs.Orders.{Reaches}
use Rattle.mp_system.proofs.order.replay.Given as goal

abbrev pub invariant-loop-i : goal.invariant-loop-i
invariant-loop-i l = Reaches l.system l.order l.i l.peak l.replay
