use Rattle.std.proofs.Common.{Some, None}
use Rattle.claim_check.proofs.Said.{of_plan, said_yes, said_no}
use Rattle.claim_check.proofs.opening.verdict_by.Goals as goal

pub returns-in-None : goal.returns-in-None
returns-in-None c = λ system settled.
    let ps = c.args.view.now.positions in
    let plan = c.args.plan.now in
    said_yes system ps plan c.peak.result settled c.peak.ensures
    (of_plan ps plan c.args.view.now.claims c.args.lowest None c.requires.claims c.in-None.is c.requires.lowest)

pub returns-in-Some : goal.returns-in-Some
returns-in-Some c = λ system settled.
    let ps = c.args.view.now.positions in
    let plan = c.args.plan.now in
    said_no system ps plan c.in-Some.position c.shape.result settled
    (of_plan ps plan c.args.view.now.claims c.args.lowest (Some c.in-Some.position) c.requires.claims c.in-Some.is c.requires.lowest)
    c.shape.ensures
