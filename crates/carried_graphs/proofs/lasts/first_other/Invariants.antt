use Rattle.std.proofs.Common.{get_or}
use Rattle.carried_graphs.specs.Places.{AreGreatest}
use Rattle.carried_graphs.proofs.lasts.first_other.Given as goal

abbrev pub invariant-loop-i : goal.invariant-loop-i
invariant-loop-i l = AreGreatest (λ v. get_or l.places v 0) l.items l.lasts l.i
