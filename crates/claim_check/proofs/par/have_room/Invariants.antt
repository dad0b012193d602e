use Rattle.plans.specs.Plan.{claim_at, direction_of}
use Rattle.claim_check.proofs.Sums.{Roomy}
use Rattle.claim_check.proofs.par.have_room.Given as goal

abbrev pub invariant-loop-left : goal.invariant-loop-left
invariant-loop-left l =
    Roomy l.view.positions (claim_at l.view.claims) (direction_of l.claim.dir) l.claim.bound l.total l.position l.left l.here

abbrev pub decreases-loop-left : goal.decreases-loop-left
decreases-loop-left l = l.left
