use Rattle.claim_check.proofs.Said.{settled}
use Rattle.claim_check.proofs.opening.opened.Goals as goal

pub returns-clause-settled : goal.returns-clause-settled
returns-clause-settled c =
    settled c.args.system.now c.args.terms.now c.args.plan.now c.order.result.now c.in-Ok.replayed c.peak-printed.result
    c.claims.result.now c.in_ok-view.view c.order.ensures.value c.in-Ok.ensures.peak
    c.peak-printed.ensures c.if-replayed-printed.false c.in_ok-view.ensures
    (c.has_root.ensures.0 c.if-not-has_root.false)
