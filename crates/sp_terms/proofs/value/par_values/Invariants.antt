use Rattle.sp_terms.proofs.ValuesLemmas.{Taken}
use Rattle.sp_terms.proofs.value.par_values.Given as goal

abbrev pub invariant-loop-left : goal.invariant-loop-left
invariant-loop-left l = Taken l.positions l.at l.left l.end l.all

abbrev pub decreases-loop-left : goal.decreases-loop-left
decreases-loop-left l = l.left
