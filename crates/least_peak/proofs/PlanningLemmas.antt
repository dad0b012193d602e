-- The plan of a system, from the plan of its term.
use Rattle.std.proofs.Common.{◌≡◌, ◌∙◌, ℕ, ◌≤◌, List, [], All, Option, Some, None, refl, sym, ap, subst, inl, length, map, arith}
use Rattle.std.specs.Prelude.{◌↔◌}
use Rattle.std.proofs.lemmas.List.Elements.{All-weaker}
use Rattle.limits.specs.Limits.{most_tasks, most_total, most_positions}
use Rattle.mp_system.specs.Memory.{peak_of}
use Rattle.mp_system.specs.Renaming.{name_in, IsRenamed}
use Rattle.mp_system.specs.System.{TaskSystem, IsSystem, IsTask}
use Rattle.mp_system.specs.Traversal.{IsTraversal, IsLeast}
use Rattle.sp_terms.specs.declared.position.Position.{Position}
use Rattle.sp_terms.specs.SystemOfTerm.{system_of_term}
use Rattle.sp_terms.specs.Values.{IsTerms, term_of}
use Rattle.plans.specs.declared.claim.Claim.{Claim}
use Rattle.plans.specs.Plan.{PlanValue, IsPlan, IsClaimWithin, RiseFrom, claim_at}
use Rattle.claim_check.specs.Accepted.{IsAccepted, HasRoot}
use Rattle.claim_check.specs.Judged.{PassesAt}
use Rattle.least_peak.specs.Best.{IsBestTraversal}
use Rattle.least_peak.specs.Problem.{system_of, IsTermOf}
use Rattle.least_peak.specs.declared.problem.Origin.{Origin}
use Rattle.least_peak.specs.declared.problem.Origin.TheVariants as origins
use Rattle.least_peak.specs.Named.{IsNamedBy, IsNamedTerm, order_named}

-- ---- an order under the names of a system

abbrev pub Traversals : Type 0
Traversals = (names : List ℕ) (own named : TaskSystem) (order : List ℕ)
    → IsRenamed names own named → IsTraversal own order ↔ IsTraversal named (map (name_in names) order)

abbrev Peaks : Type 0
Peaks =
    (names : List ℕ) (own named : TaskSystem) (order : List ℕ) → IsRenamed names own named → IsTraversal own order
    → peak_of named (map (name_in names) order) ≡ peak_of own order

pub traversal_named : Traversals → (names : Option (List ℕ)) (own system : TaskSystem) (order : List ℕ)
    → IsNamedBy names own system → IsTraversal own order
    → IsTraversal system (order_named names order)
traversal_named law None own system order same walks = subst (λ s. IsTraversal s order) same walks
traversal_named law (Some names) own system order same walks = (law names own system order same).0 walks

pub peak_named : Peaks → (names : Option (List ℕ)) (own system : TaskSystem) (order : List ℕ)
    → IsNamedBy names own system → IsTraversal own order
    → peak_of system (order_named names order) ≡ peak_of own order
peak_named law None own system order same walks = ap (λ s. peak_of s order) (sym same)
peak_named law (Some names) own system order same walks = law names own system order same walks

-- ---- the limits of a plan

pub few_tasks : (system : TaskSystem) (order : List ℕ) → IsSystem system → length order ≡ length system.tasks → length order ≤ most_tasks
few_tasks system order is long = omega (arith, long, is.few_tasks)

small_task : (system : TaskSystem) → IsSystem system → (v : ℕ) → IsTask system v → v ≤ 4294967295
small_task system is v task = omega (arith, task.1, is.few_tasks)

pub small_tasks : (system : TaskSystem) (order : List ℕ) → IsSystem system → IsTraversal system order → All (λ v. v ≤ 4294967295) order
small_tasks system order is walks = All-weaker (IsTask system) (λ v. v ≤ 4294967295) (small_task system is) order walks.tasks

-- ---- a plan of the term, with its order under the names

module _
    (traversals : Traversals) (peaks : Peaks)
    (long : (system : TaskSystem) (order : List ℕ) → IsTraversal system order → length order ≡ length system.tasks)
    (system : TaskSystem) (positions : List Position) (names : Option (List ℕ)) (term : IsNamedTerm names positions system)
    (order : List ℕ) (peak : ℕ) (walks : IsTraversal (system_of_term (term_of positions)) order)
    (peak_is : peak_of (system_of_term (term_of positions)) order ≡ peak)
    (named : List ℕ) (named_is : named ≡ order_named names order) where
  walks_named : IsTraversal system named
  walks_named =
      subst (IsTraversal system) (sym named_is)
      (traversal_named traversals names (system_of_term (term_of positions)) system order term.named walks)

  peak_is_named : peak_of system named ≡ peak
  peak_is_named =
      ap (peak_of system) named_is ∙ peak_named peaks names (system_of_term (term_of positions)) system order term.named walks ∙ peak_is

  pub plan_within : (claims : List Claim) (priority : List ℕ) → priority ≡ [] → peak ≤ most_total
      → length claims ≤ most_positions → All IsClaimWithin claims → RiseFrom 0 claims
      → IsPlan (record { order = named; peak = peak; claims = claims; priority = priority })
  plan_within claims priority none small few within rising = record {
    few_tasks = few_tasks system named term.within (long system named walks_named);
    tasks = small_tasks system named term.within walks_named;
    peak = small;
    few_claims = few;
    claims = within;
    rising = rising;
    priority = inl none;
  }

  pub plan_accepted : (plan : PlanValue) → plan.order ≡ named → plan.peak ≡ peak
      → HasRoot positions plan → ((k : ℕ) → PassesAt positions (claim_at plan.claims) k)
      → IsAccepted system positions plan
  plan_accepted plan same_order same_peak root pass = record {
    traversal = subst (IsTraversal system) (sym same_order) walks_named;
    peak = ap (peak_of system) same_order ∙ peak_is_named ∙ sym same_peak;
    root = root;
    claims = pass;
  }

-- ---- accepted plans

abbrev Own : Type 0
Own = (ps : List Position) (plan : PlanValue) → IsTerms ps
    → IsAccepted (system_of_term (term_of ps)) ps plan → IsLeast (system_of_term (term_of ps)) plan.peak

abbrev Renamed : Type 0
Renamed =
    (names : List ℕ) (system : TaskSystem) (ps : List Position) (plan : PlanValue)
    → IsTerms ps → IsRenamed names (system_of_term (term_of ps)) system
    → IsAccepted system ps plan → IsLeast system plan.peak

least_named : Own → Renamed → (names : Option (List ℕ)) (system : TaskSystem) (ps : List Position)
    → IsTerms ps → IsNamedBy names (system_of_term (term_of ps)) system
    → (plan : PlanValue) → IsAccepted system ps plan → IsLeast system plan.peak
least_named own renamed None system ps terms same plan accepted =
    subst (λ s. IsLeast s plan.peak) same (own ps plan terms (subst (λ s. IsAccepted s ps plan) (sym same) accepted))
least_named own renamed (Some names) system ps terms same plan accepted = renamed names system ps plan terms same accepted

-- the peak of a plan that is accepted is least
pub accepted_is_least : Own → Renamed → (names : Option (List ℕ)) (positions : List Position) (system : TaskSystem)
    → IsNamedTerm names positions system → (plan : PlanValue) → IsAccepted system positions plan → IsLeast system plan.peak
accepted_is_least own renamed names positions system term plan accepted =
    least_named own renamed names system positions term.terms term.named plan accepted

pub accepted_is_best : Own → Renamed
    → (names : Option (List ℕ)) (positions : List Position) (system : TaskSystem) → IsNamedTerm names positions system
    → (plan : PlanValue) → IsAccepted system positions plan → IsBestTraversal system plan.order plan.peak
accepted_is_best own renamed names positions system term plan accepted = record {
  traversal = accepted.traversal;
  is_peak = accepted.peak;
  least = accepted_is_least own renamed names positions system term plan accepted;
}

-- ---- the plan of a workflow

pub workflow_accepted : (origin : Origin) (own : List Position)
    → origin ≡ origins.Workflow own → IsTerms own → IsSystem (system_of_term (term_of own))
    → (plan : PlanValue) → ((system : TaskSystem) → IsNamedTerm None own system → IsAccepted system own plan)
    → (positions : List Position) × IsTermOf origin positions × IsAccepted (system_of origin) positions plan
workflow_accepted origin own is terms within plan accepted =
    subst (λ (o : Origin). (positions : List Position) × IsTermOf o positions × IsAccepted (system_of o) positions plan) (sym is)
    (own, refl, accepted (system_of_term (term_of own)) (record { terms = terms; within = within; named = refl }))
