use Rattle.std.proofs.Common.{◌≡◌, ◌≤◌, ℕ, sym, ap, subst, length, Some}
use Rattle.std.specs.Prelude.{pos, ◌+ℤ◌, ◌≤ℤ◌}
use Rattle.limits.specs.Limits.{most_total}
use Rattle.claim_rules.specs.Claims.{Claim}
use Rattle.claim_check.specs.Accepted.{HasRoot}
use Rattle.claim_check.specs.Judged.{PassesAt}
use Rattle.plans.specs.Plan.{PlanValue, claim_at}
use Rattle.least_peak.proofs.PlanningLemmas.{plan_within, plan_accepted}
use Rattle.least_peak.proofs.planning.plan_counted.Goals as goal

pub claims_of-requires : goal.claims_of-requires
claims_of-requires g c = record {
  part = (c.in_ok-plan.plan.ropes, c.in_ok-plan.ensures.part, c.in_ok-plan.ensures.cut);
  notes = c.in_ok-plan.ensures.notes;
}

pub new-requires-2 : goal.new-requires-2
new-requires-2 g c =
    let made = c.in_ok-plan.ensures in
    let small : c.in_ok-plan.plan.peak ≤ most_total = subst (λ n. n ≤ most_total) (sym made.peak) made.part.within in
    let claims = c.in_ok-claims.ensures in
    plan_within c.renaming_law.ensures.traversal c.renaming_law.ensures.peak
    c.traversal_law.ensures.long c.requires.term.0 c.args.terms.now c.args.names c.requires.term.1
    c.in_ok-plan.plan.order.items c.in_ok-plan.plan.peak made.traversal.0 made.traversal.1 c.in_ok-named.named.items c.in_ok-named.ensures
    c.in_ok-claims.claims.items c.new.result.items c.new.ensures.items small claims.few claims.within claims.rising

pub returns-clause-accepted : goal.returns-clause-accepted
returns-clause-accepted g c =
    let made = c.in_ok-plan.ensures in
    let claims = c.in_ok-claims.ensures in
    let is = c.new-2.ensures in
    λ system term. plan_accepted c.renaming_law.ensures.traversal c.renaming_law.ensures.peak
    c.traversal_law.ensures.long system c.args.terms.now c.args.names term
    c.in_ok-plan.plan.order.items c.in_ok-plan.plan.peak made.traversal.0 made.traversal.1 c.in_ok-named.named.items c.in_ok-named.ensures
    c.new-2.result (ap (λ (p : PlanValue). p.order) is) (ap (λ (p : PlanValue). p.peak) is)
    (subst (HasRoot c.args.terms.now) (sym is)
    (subst (λ n. (k : Claim) × (claim_at c.in_ok-claims.claims.items (length c.args.terms.now) ≡ Some k)
    × (pos n ≤ℤ (k.bound +ℤ pos 1))) (sym made.peak) claims.root))
    (subst (λ (p : PlanValue). (k : ℕ) → PassesAt c.args.terms.now (claim_at p.claims) k) (sym is) claims.pass)
