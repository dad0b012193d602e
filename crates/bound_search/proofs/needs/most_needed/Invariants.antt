use Rattle.bound_search.specs.Needs.{IsMostOf}
use Rattle.bound_search.proofs.needs.most_needed.Given as goal

abbrev pub invariant-loop-i : goal.invariant-loop-i
invariant-loop-i l = IsMostOf l.system l.i l.most
