use Rattle.std.proofs.Common.{◌≡◌, List, subst}
use Rattle.sp_terms.specs.declared.position.Position.{Position}
use Rattle.sp_terms.specs.SystemOfTerm.{system_of_term}
use Rattle.sp_terms.specs.Values.{term_of}
use Rattle.plans.specs.Plan.{PlanValue}
use Rattle.claim_check.specs.Accepted.{IsAccepted}
use Rattle.least_peak.specs.Best.{IsBestTraversal}
use Rattle.least_peak.specs.Problem.{system_of, IsTermOf}
use Rattle.least_peak.specs.declared.problem.Origin.{Origin}
use Rattle.least_peak.specs.declared.problem.Origin.TheVariants.{Workflow}
use Rattle.graph_plan.proofs.ByTerm.{Laws, by_term, within_limits}
use Rattle.graph_plan.proofs.least.plan_by_term.Goals as goal

-- what the plan of a workflow says of its own positions
best_of : (origin : Origin) (ps : List Position) (plan : PlanValue) → origin ≡ Workflow ps
    → IsBestTraversal (system_of origin) plan.order plan.peak → IsBestTraversal (system_of_term (term_of ps)) plan.order plan.peak
best_of origin ps plan is best = subst (λ (o : Origin). IsBestTraversal (system_of o) plan.order plan.peak) is best

accepted_of : (origin : Origin) (ps : List Position) (plan : PlanValue) → origin ≡ Workflow ps
    → (positions : List Position) × IsTermOf origin positions × IsAccepted (system_of origin) positions plan
    → IsAccepted (system_of_term (term_of ps)) ps plan
accepted_of origin ps plan is (positions, own, accepted) =
    let same : positions ≡ ps = subst (λ (o : Origin). IsTermOf o positions) is own in
    subst (λ (qs : List Position). IsAccepted (system_of_term (term_of ps)) qs plan) same
    (subst (λ (o : Origin). IsAccepted (system_of o) positions plan) is accepted)

pub new-requires-2 : goal.new-requires-2
new-requires-2 c =
    let laws : Laws = record {
      traversal = c.told_term_law.ensures.traversal;
      peak = c.told_term_law.ensures.peak;
      least = c.told_term_law.ensures.least;
      long = c.order_law.ensures.long;
    } in
    let ps = c.args.reduced.terms in
    let plan = c.in_ok-plan.plan in
    rw (
      c.in_ok-order.ensures,
      c.order.ensures.value,
      c.deref.ensures.value,
      c.tasks-tasks.ensures.value,
      c.peak.ensures,
      c.peak-2.ensures,
      c.new.ensures,
      c.in_ok-claims.ensures.items,
      c.claims.ensures,
    )
    (within_limits laws c.args.system.now c.keeps.ensures c.args.reduced.names.items ps c.keeps-2.ensures c.requires plan
    c.in_ok-plan.ensures.within (best_of c.of_workflow.result ps plan c.of_workflow.ensures c.in_ok-plan.ensures.best)
    (accepted_of c.of_workflow.result ps plan c.of_workflow.ensures c.in_ok-plan.ensures.accepted))

pub returns-clause-accepted : goal.returns-clause-accepted
returns-clause-accepted c =
    let laws : Laws = record {
      traversal = c.told_term_law.ensures.traversal;
      peak = c.told_term_law.ensures.peak;
      least = c.told_term_law.ensures.least;
      long = c.order_law.ensures.long;
    } in
    let ps = c.args.reduced.terms in
    let plan = c.in_ok-plan.plan in
    rw (
      c.new-2.ensures,
      c.in_ok-order.ensures,
      c.order.ensures.value,
      c.deref.ensures.value,
      c.tasks-tasks.ensures.value,
      c.peak.ensures,
      c.peak-2.ensures,
      c.new.ensures,
      c.in_ok-claims.ensures.items,
      c.claims.ensures,
    )
    (by_term laws c.args.system.now c.keeps.ensures c.args.reduced.names.items ps c.keeps-2.ensures c.requires plan
    c.in_ok-plan.ensures.within (best_of c.of_workflow.result ps plan c.of_workflow.ensures c.in_ok-plan.ensures.best)
    (accepted_of c.of_workflow.result ps plan c.of_workflow.ensures c.in_ok-plan.ensures.accepted))
