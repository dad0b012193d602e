use Rattle.plan_claims.proofs.Loops.{last_is}
use Rattle.plan_claims.proofs.handing.last_up.Goals as goal

pub returns-in-Some : goal.returns-in-Some
returns-in-Some c = last_is c.args.segments.now c.in-Some.last.now c.in-Some.ensures.value
