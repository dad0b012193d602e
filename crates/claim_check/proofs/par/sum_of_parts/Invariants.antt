use Rattle.plans.specs.Plan.{claim_at, direction_of}
use Rattle.claim_check.proofs.Sums.{Summed}
use Rattle.claim_check.proofs.par.sum_of_parts.Given as goal

abbrev pub invariant-loop-left : goal.invariant-loop-left
invariant-loop-left l =
    Summed l.view.positions (claim_at l.view.claims) (direction_of l.dir) l.position l.parts l.left l.here l.total l.some

abbrev pub decreases-loop-left : goal.decreases-loop-left
decreases-loop-left l = l.left
