-- The plan of a term, as a plan of the system whose orders the term tells.
use Rattle.std.proofs.Common.{◌≡◌, ◌≤◌, ◌↔◌, ℕ, List, length, arith, inl}
use Rattle.std.specs.List.{All}
use Rattle.mp_system.specs.Memory.{peak_of}
use Rattle.mp_system.specs.Traversal.{IsTraversal, IsLeast}
use Rattle.sp_terms.specs.Term.{Term}
use Rattle.sp_terms.specs.SystemOfTerm.{system_of_term}
use Rattle.sp_terms.specs.Values.{IsTerms, term_of}
use Rattle.sp_terms.specs.declared.position.Position.{Position}
use Rattle.plans.specs.Plan.{PlanValue, IsPlan, most_number}
use Rattle.claim_check.specs.Accepted.{IsAccepted}
use Rattle.shared_systems.specs.Shared.{SharedTaskSystem}
use Rattle.shared_systems.specs.SharedMemory.{shared_peak_of}
use Rattle.shared_systems.specs.SharedTraversal.{IsSharedTraversal, IsLeastShared}
use Rattle.shared_systems.specs.Bounds.{IsSharedSystem}
use Rattle.shared_reduce.specs.SharedTerm.{IsSharedTerm, told}
use Rattle.peak_bounds.specs.declared.evidence.Evidence.{Evidence}
use Rattle.peak_bounds.specs.declared.evidence.Evidence.TheVariants.{Start, Need}
use Rattle.peak_bounds.specs.Evidence.{IsEvidence, memory_at_start, memory_of_task}
use Rattle.bounded_plans.specs.BoundedPlan.{BoundedPlanValue, IsBoundedPlan}
use Rattle.bounded_plans.specs.declared.evidence.BoundEvidence.TheVariants.{Claims}
use Rattle.bound_check.specs.Accepted.{IsBoundAccepted}
use Rattle.least_peak.specs.Best.{IsBestTraversal}
use Rattle.graph_plan.specs.Planned.{IsGraphPlan}

-- what is known of terms
pub record Laws : Type 0 where
  pub traversal : (system : SharedTaskSystem) (names : List ℕ) (t : Term) (order : List ℕ) → IsSharedSystem system
      → IsSharedTerm system names t → IsTraversal (system_of_term t) order → IsSharedTraversal system (told (length system.tasks) names order)
  pub peak : (system : SharedTaskSystem) (names : List ℕ) (t : Term) (order : List ℕ) → IsSharedSystem system
      → IsSharedTerm system names t → IsTraversal (system_of_term t) order
      → shared_peak_of system (told (length system.tasks) names order) ≤ peak_of (system_of_term t) order
  pub least : (system : SharedTaskSystem) (names : List ℕ) (t : Term) (peak : ℕ) → IsSharedSystem system
      → IsSharedTerm system names t → (IsLeastShared system peak ↔ IsLeast (system_of_term t) peak)
  pub long : (system : SharedTaskSystem) (order : List ℕ) → IsSharedTraversal system order → length order ≡ length system.tasks

module _ (laws : Laws) (system : SharedTaskSystem) (is : IsSharedSystem system) (names : List ℕ) (ps : List Position) (terms : IsTerms ps)
    (term : IsSharedTerm system names (term_of ps)) (plan : PlanValue) (within : IsPlan plan)
    (best : IsBestTraversal (system_of_term (term_of ps)) plan.order plan.peak)
    (accepted : IsAccepted (system_of_term (term_of ps)) ps plan) where
  abbrev pub value : BoundedPlanValue
  value = record {
    order = told (length system.tasks) names plan.order;
    peak = plan.peak;
    bound = plan.peak;
    evidence = Claims plan.claims;
  }

  traversal : IsSharedTraversal system (told (length system.tasks) names plan.order)
  traversal = laws.traversal system names (term_of ps) plan.order is term best.traversal

  peak_is : shared_peak_of system (told (length system.tasks) names plan.order) ≡ plan.peak
  peak_is =
      let low = laws.peak system names (term_of ps) plan.order is term best.traversal in
      let least = (laws.least system names (term_of ps) plan.peak is term).1 best.least in
      omega (arith, low, best.is_peak, least.least (told (length system.tasks) names plan.order) traversal)

  pub by_term : IsBoundAccepted system value
  by_term = record {
    traversal = traversal;
    peak = peak_is;
    shown = (ps, record { names = names; terms = terms; is = term }, record { root = accepted.root; each = accepted.claims });
  }

  numbers : All (λ v. v ≤ most_number) (told (length system.tasks) names plan.order)
  numbers = λ i d lt. omega (arith, (traversal.tasks i d lt).1, is.few_tasks)

  pub within_limits : IsBoundedPlan value
  within_limits = record {
    few_tasks = omega (arith, laws.long system (told (length system.tasks) names plan.order) traversal, is.few_tasks);
    tasks = numbers;
    peak = within.peak;
    bound = within.peak;
    evidence = record { few = within.few_claims; each = within.claims; rising = within.rising };
  }

-- ---- a plan whose bound is its peak

module _ (system : SharedTaskSystem) (is : IsSharedSystem system)
    (below : (system : SharedTaskSystem) (evidence : Evidence) (bound : ℕ) (order : List ℕ) → IsSharedSystem system
    → IsEvidence system evidence bound → IsSharedTraversal system order → bound ≤ shared_peak_of system order)
    (least : (system : SharedTaskSystem) (plan : BoundedPlanValue) → IsSharedSystem system → IsBoundAccepted system plan
    → plan.bound ≡ plan.peak → IsLeastShared system plan.peak) where
  pub least_plan : (plan : BoundedPlanValue) → IsBoundAccepted system plan → plan.bound ≡ plan.peak → IsGraphPlan system plan
  least_plan plan accepted met = record {
    accepted = accepted;
    least_or_not = inl (record { met = met; least = least system plan is accepted met });
    plain = record {
      start = omega (
        arith,
        below system Start (memory_at_start system) plan.order is (omega arith) accepted.traversal,
        accepted.peak,
        met,
      );
      needs = λ t task. omega (
        arith,
        below system (Need t) (memory_of_task system t) plan.order is (task, omega arith) accepted.traversal,
        accepted.peak,
        met,
      );
    };
  }
