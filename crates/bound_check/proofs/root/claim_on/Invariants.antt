use Rattle.std.proofs.Common.{◌≡◌, drop}
use Rattle.plans.specs.Plan.{claim_at}
use Rattle.bound_check.proofs.root.claim_on.Given as goal

abbrev pub invariant-loop-claim : goal.invariant-loop-claim
invariant-loop-claim l = claim_at (drop l.claim-index l.claims) l.position ≡ claim_at l.claims l.position
