use Rattle.std.proofs.Common.{sym, ◌∙◌}
use Rattle.sp_terms.specs.declared.position.Position.TheVariants.{Hold}
use Rattle.plans.specs.Plan.{claim_of, claim_at}
use Rattle.claim_check.proofs.Sums.{own_at}
use Rattle.claim_check.proofs.SeriesAt.{data_judged}
use Rattle.claim_check.proofs.judge.meets_rule.Goals as goal

pub returns-in-Hold : goal.returns-in-Hold
returns-in-Hold c = data_judged c.args.view.now.positions c.args.position c.in-Hold.size
    (claim_at c.args.view.now.claims) (claim_of c.args.claim.now) c.meets_data.result
    (own_at c.args.view.now.positions c.args.position c.requires.placed (Hold c.in-Hold.size) (λ d. sym (c.at.ensures d) ∙ c.in-Hold.is))
    c.meets_data.ensures
