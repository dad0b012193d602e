use Rattle.std.proofs.Common.{drop}
use Rattle.std.specs.Prelude.{◌↔◌}
use Rattle.plans.specs.Plan.{RiseFrom}
use Rattle.claim_check.proofs.view.rise.Given as goal

abbrev pub invariant-loop-claim : goal.invariant-loop-claim
invariant-loop-claim l = RiseFrom 0 l.claims ↔ RiseFrom l.last (drop l.claim-index l.claims)
