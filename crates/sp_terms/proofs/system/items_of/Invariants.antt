use Rattle.sp_terms.proofs.PendingLemmas.{Opened}
use Rattle.sp_terms.proofs.system.items_of.Given as goal

abbrev pub invariant-loop-at : goal.invariant-loop-at
invariant-loop-at l = Opened l.positions l.at l.own l.pending.items l.found.items

abbrev pub decreases-loop-at : goal.decreases-loop-at
decreases-loop-at l = l.at
