use Rattle.bound_search.proofs.TaskSums.{AreAdded}
use Rattle.bound_search.proofs.needs.add_sizes.Given as goal

abbrev pub invariant-loop-i : goal.invariant-loop-i
invariant-loop-i l = AreAdded l.places l.initial.sums l.size l.sums l.i
