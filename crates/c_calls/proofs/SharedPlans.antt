-- A plan of a system is what a call for a plan of its arrays answers.
use Rattle.std.proofs.Common.{◌≡◌, ◌≢◌, ◌∙◌, ◌≤◌, ◌⊎◌, inl, inr, ℕ, List, [], length, sym, ap, subst}
use Rattle.std.proofs.lemmas.List.{length-map}
use Rattle.mp_system.specs.Given.{task_given}
use Rattle.mp_system.specs.declared.given.GivenTask.{GivenTask}
use Rattle.shared_systems.specs.Bounds.{IsSharedSystem}
use Rattle.shared_systems.specs.Given.{shared_system_given}
use Rattle.shared_systems.specs.Shared.{SharedTaskSystem}
use Rattle.shared_systems.specs.SharedMemory.{shared_peak_of}
use Rattle.shared_systems.specs.SharedTraversal.{IsSharedTraversal}
use Rattle.shared_systems.specs.declared.given.GivenSharedItem.{GivenSharedItem}
use Rattle.bounded_plans.specs.BoundedPlan.{BoundedPlanValue}
use Rattle.bound_check.specs.Objections.{IsWithoutTerm}
use Rattle.graph_plan.specs.Planned.{IsGraphPlan, IsLeastPlan, IsNoWorse}
use Rattle.c_calls.specs.Answers.{IsLeastFound, IsSharedPlanned}

least_or_not : (system : SharedTaskSystem) (plan : BoundedPlanValue) → IsLeastPlan system plan ⊎ IsWithoutTerm system
    → IsLeastFound system plan.peak plan.bound ⊎ IsWithoutTerm system
least_or_not system plan (inl is) = inl (record { met = is.met; least = is.least })
least_or_not system plan (inr without) = inr without

module _ (tasks : List GivenTask) (items : List GivenSharedItem) (readers start : List ℕ) (plan : BoundedPlanValue) where
  abbrev pub given : SharedTaskSystem
  given = shared_system_given tasks items readers

  of_given : IsSharedSystem given → IsGraphPlan given plan
      → ((other : List ℕ) → IsSharedTraversal given other → plan.bound ≤ shared_peak_of given other)
      → (start ≢ [] → IsNoWorse given start plan) → IsSharedPlanned tasks items readers start plan.order plan.peak plan.bound
  of_given within is below worse = record {
    system = within;
    traversal = is.accepted.traversal;
    peak_is = sym is.accepted.peak;
    below_none = below;
    least_or_not = least_or_not given plan is.least_or_not;
    plain = is.plain;
    no_worse = worse;
  }

  pub order_long : (system : SharedTaskSystem) (room : ℕ) → system ≡ given → room ≡ length tasks
      → length plan.order ≡ length system.tasks → length plan.order ≡ room
  order_long system room same is long =
      long ∙ ap (λ (s : SharedTaskSystem). length s.tasks) same ∙ length-map tasks task_given ∙ sym is

  -- of a system that is the one of the arrays
  pub planned : (system : SharedTaskSystem) → system ≡ given → IsSharedSystem given → IsGraphPlan system plan
      → ((other : List ℕ) → IsSharedTraversal system other → plan.bound ≤ shared_peak_of system other)
      → (start ≢ [] → IsNoWorse system start plan) → IsSharedPlanned tasks items readers start plan.order plan.peak plan.bound
  planned system same within is below worse = of_given within
      (subst (λ (s : SharedTaskSystem). IsGraphPlan s plan) same is)
      (subst (λ (s : SharedTaskSystem). (other : List ℕ) → IsSharedTraversal s other → plan.bound ≤ shared_peak_of s other) same below)
      (subst (λ (s : SharedTaskSystem). start ≢ [] → IsNoWorse s start plan) same worse)
