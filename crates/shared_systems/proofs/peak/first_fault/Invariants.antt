use Rattle.shared_systems.proofs.Faults.{Runs}
use Rattle.shared_systems.proofs.peak.first_fault.Given as goal

abbrev pub invariant-loop-i : goal.invariant-loop-i
invariant-loop-i l = Runs l.system l.order l.i
