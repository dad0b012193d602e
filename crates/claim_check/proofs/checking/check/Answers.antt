use Rattle.claim_check.proofs.Said.{of_view}
use Rattle.claim_check.proofs.checking.check.Goals as goal

pub returns : goal.returns
returns g c =
    let system = c.args.system.now in
    record {
      verdict = of_view system c.args.terms.now c.args.plan.now.claims c.args.plan.now c.in-Ok.view c.verdict_by.result c.in-Ok.ensures.view
          c.in-Ok.ensures.settled (c.verdict_by.ensures system);
    }
