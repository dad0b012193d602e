use Rattle.claim_check.proofs.Said.{root_at}
use Rattle.claim_check.proofs.opening.has_root.Goals as goal

pub returns : goal.returns
returns c = root_at c.args.view.now.positions c.args.plan.now c.args.view.now.claims
    c.len.result c.part.result.claim c.in-Some.claim c.peak.result c.reaches.result
    c.peak.ensures c.requires c.len.ensures.value c.part.ensures.claim c.in-Some.is c.reaches.ensures
