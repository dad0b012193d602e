use Rattle.std.proofs.Common.{◌∙◌, sym}
use Rattle.std.proofs.lemmas.Result.{IfOk-weaker}
use Rattle.least_peak.proofs.PlanningLemmas.{workflow_accepted}
use Rattle.least_peak.proofs.problem.Problem.plan.Goals as goal

pub returns-in-Workflow-clause-accepted : goal.returns-in-Workflow-clause-accepted
returns-in-Workflow-clause-accepted c =
    let own = c.in-Workflow.terms in
    let within = c.terms_law.ensures.system own c.keeps-in-Workflow.ensures in
    IfOk-weaker c.plan_term-in-Workflow.result _ _
    (workflow_accepted c.args.self.now own (sym c.self.view_is ∙ c.in-Workflow.is) c.keeps-in-Workflow.ensures within)
    c.plan_term-in-Workflow.ensures.accepted
