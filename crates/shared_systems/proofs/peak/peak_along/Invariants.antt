use Rattle.shared_systems.proofs.Freeing.{Reaches}
use Rattle.shared_systems.proofs.peak.peak_along.Given as goal

abbrev pub invariant-loop-i : goal.invariant-loop-i
invariant-loop-i l = Reaches l.system l.order l.i l.memory l.peak
