use Rattle.std.proofs.Common.{◌↔◌, ℕ, ◌+◌, ◌<◌, ◌∷◌, List, drop, All}
use Rattle.std.proofs.lemmas.List.{drop_more}
use Rattle.std.proofs.lemmas.List.Elements.{All-cons, All-tail}
use Rattle.plans.specs.Plan.{IsClaimWithin, RiseFrom}
use Rattle.plans.specs.declared.claim.Claim.{Claim}
use Rattle.plans.proofs.Rising.{no_claim}
use Rattle.plans.proofs.parts.are_claims.Goals as goal

abbrev Are : ℕ → List Claim → Type 0
Are n claims = All IsClaimWithin claims × RiseFrom n claims

decided : (n : ℕ) (claim : Claim) (rest : List Claim)
    → IsClaimWithin claim × (n < claim.position) → Are n (claim ∷ rest) ↔ Are claim.position rest
decided n claim rest next =
    (λ are. (All-tail IsClaimWithin claim rest are.0, are.1.1), λ are. (All-cons IsClaimWithin claim rest next.0 are.0, (next.1, are.1)))

pub loop-claim-preserved : goal.loop-claim-preserved
loop-claim-preserved c =
    let xs = c.args.claims.now in
    let i = c.loop-claim.claim-index in
    let decides = decided c.loop-claim.last _ (drop (i + 1) xs) (c.is_next.ensures.0 c.if-not-is_next.false) in
    let left = rw (drop_more xs i no_claim c.loop-claim-test.true) at c.loop-claim.invariant in
    (λ are. decides.0 (left.0 are), λ are. left.1 (decides.1 are))
