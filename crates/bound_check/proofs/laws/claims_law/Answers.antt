use Rattle.std.proofs.Common.{subst, length}
use Rattle.sp_terms.specs.Values.{term_of}
use Rattle.claim_rules.specs.Claims.{IsSound}
use Rattle.plans.specs.Plan.{claim_at}
use Rattle.bound_check.proofs.Bounds.{sound_bound}
use Rattle.bound_check.proofs.laws.claims_law.Goals as goal

pub returns : goal.returns
returns c = λ ps claims bound order terms shown traversal.
    let root = shown.root in
    let stands = shown.each (length ps) root.0 root.1 in
    let sound = c.list_law.ensures.sound ps (claim_at claims) terms
    (λ k claim low high is. (shown.each k claim is).2) (length ps) root.0 stands.0 stands.1 root.1 in
    let whole = subst (λ t. IsSound t root.0) (c.position_law.ensures.last ps terms) sound in
    sound_bound (term_of ps) root.0 bound order whole root.2 traversal
