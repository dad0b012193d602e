use Rattle.graph_plan.proofs.ByTerm.{least_plan}
use Rattle.graph_plan.proofs.planning.plan_from.Goals as goal

pub returns-in-Ok-clause-plan : goal.returns-in-Ok-clause-plan
returns-in-Ok-clause-plan c =
    least_plan c.args.system.now c.keeps.ensures c.evidence_law.ensures.bound c.accepted_law.ensures.least
    c.in_ok-plan-in-Ok.plan c.in_ok-plan-in-Ok.ensures.accepted c.in_ok-plan-in-Ok.ensures.met
