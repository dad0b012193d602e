use Rattle.std.proofs.Common.{sym, ◌∙◌, refl}
use Rattle.claim_check.proofs.Outside.{claimed, unclaimed}
use Rattle.lists.proofs.Options.{some_none}
use Rattle.claim_check.proofs.judge.check_at.Goals as goal

pub returns-then-has_claim-clause-none : goal.returns-then-has_claim-clause-none
returns-then-has_claim-clause-none c = (
  (λ e. absurd (some_none e)),
  (λ p. absurd (claimed c.args.view.now.positions c.args.view.now.claims c.args.position
      (sym c.has_position.ensures.value ∙ c.if-not-has_position.true) (sym c.has_claim.ensures ∙ c.if-has_claim.true) p)),
)

pub returns-then-not-has_position-clause-none : goal.returns-then-not-has_position-clause-none
returns-then-not-has_position-clause-none c = (
  (λ e. unclaimed c.args.view.now.positions c.args.view.now.claims c.args.position (sym c.has_claim.ensures ∙ c.if-has_claim.false)),
  (λ p. refl),
)
