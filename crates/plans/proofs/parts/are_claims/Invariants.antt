use Rattle.std.proofs.Common.{◌↔◌, drop, All}
use Rattle.plans.specs.Plan.{IsClaimWithin, RiseFrom}
use Rattle.plans.proofs.parts.are_claims.Given as goal

abbrev pub invariant-loop-claim : goal.invariant-loop-claim
invariant-loop-claim l =
    (All IsClaimWithin l.claims × RiseFrom 0 l.claims)
    ↔ (All IsClaimWithin (drop l.claim-index l.claims) × RiseFrom l.last (drop l.claim-index l.claims))
