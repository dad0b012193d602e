-- Why no order has a peak below a bound that evidence shows.
use Rattle.std.proofs.Common.{◌≡◌, ℕ, ◌≤◌, pos, ◌≤ℤ◌, ◌<ℤ◌, ◌+ℤ◌, List, length, arith}
use Rattle.std.proofs.lemmas.Int.{ints}
use Rattle.mp_system.specs.Memory.{peak_of}
use Rattle.mp_system.specs.Traversal.{IsTraversal}
use Rattle.sp_terms.specs.declared.position.Position.{Position}
use Rattle.sp_terms.specs.SystemOfTerm.{system_of_term}
use Rattle.sp_terms.specs.Term.{Term}
use Rattle.sp_terms.specs.Values.{IsTerms, term_of}
use Rattle.claim_rules.specs.Claims.{Claim as RuleClaim, IsSound}
use Rattle.plans.specs.declared.claim.Claim.{Claim}
use Rattle.shared_systems.specs.Shared.{SharedTaskSystem}
use Rattle.shared_systems.specs.SharedMemory.{shared_peak_of}
use Rattle.shared_systems.specs.SharedTraversal.{IsSharedTraversal, IsLeastShared}
use Rattle.shared_systems.specs.Bounds.{IsSharedSystem}
use Rattle.shared_reduce.specs.SharedTerm.{IsSharedTerm, told}
use Rattle.peak_bounds.specs.declared.evidence.Evidence.{Evidence}
use Rattle.peak_bounds.specs.Evidence.{IsEvidence}
use Rattle.bounded_plans.specs.BoundedPlan.{BoundedPlanValue}
use Rattle.bounded_plans.specs.declared.evidence.BoundEvidence.{BoundEvidence}
use Rattle.bounded_plans.specs.declared.evidence.BoundEvidence.TheVariants.{Sums, Claims, States}
use Rattle.state_search.specs.Shown.{IsShownByStates}
use Rattle.bound_check.specs.Shown.{ShowBound, IsShown}
use Rattle.bound_check.specs.Accepted.{IsBoundAccepted}

-- a sound claim on the whole
pub sound_bound : (t : Term) (c : RuleClaim) (bound : ℕ) (order : List ℕ) → IsSound t c → pos bound ≤ℤ (c.bound +ℤ pos 1)
    → IsTraversal (system_of_term t) order → bound ≤ peak_of (system_of_term t) order
sound_bound t c bound order sound reaches traversal =
    let above : c.bound <ℤ pos (peak_of (system_of_term t) order) = sound.no_traversal order traversal in
    omega (arith, ints, above, reaches)

-- what the laws of sums, of claims, of terms and of states say
pub record Laws : Type 0 where
  pub sums : (system : SharedTaskSystem) (evidence : Evidence) (bound : ℕ) (order : List ℕ) → IsSharedSystem system
      → IsEvidence system evidence bound → IsSharedTraversal system order → bound ≤ shared_peak_of system order
  pub claims : (ps : List Position) (claims : List Claim) (bound : ℕ) (order : List ℕ) → IsTerms ps → ShowBound ps claims bound
      → IsTraversal (system_of_term (term_of ps)) order → bound ≤ peak_of (system_of_term (term_of ps)) order
  pub back : (system : SharedTaskSystem) (names : List ℕ) (t : Term) (order : List ℕ)
      → IsSharedSystem system → IsSharedTerm system names t → IsSharedTraversal system order
      → (other : List ℕ) × IsTraversal (system_of_term t) other × (told (length system.tasks) names other ≡ order)
      × (peak_of (system_of_term t) other ≡ shared_peak_of system order)
  pub states : (system : SharedTaskSystem) (bound most : ℕ) (order : List ℕ) → IsSharedSystem system
      → IsShownByStates system bound most → IsSharedTraversal system order → bound ≤ shared_peak_of system order

shown_bound : Laws → (system : SharedTaskSystem) (evidence : BoundEvidence) (bound : ℕ) (order : List ℕ) → IsSharedSystem system
    → IsShown system evidence bound → IsSharedTraversal system order → bound ≤ shared_peak_of system order
shown_bound laws system (Sums evidence) bound order within shown traversal = laws.sums system evidence bound order within shown traversal
shown_bound laws system (Claims claims) bound order within shown traversal =
    let term = shown.1 in
    let own = laws.back system term.names (term_of shown.0) order within term.is traversal in
    let below : bound ≤ peak_of (system_of_term (term_of shown.0)) own.0 =
    laws.claims shown.0 claims bound own.0 term.terms shown.2 own.1 in
    omega (arith, below, own.3)
shown_bound laws system (States most) bound order within shown traversal = laws.states system bound most order within shown traversal

pub accepted_bound : Laws → (system : SharedTaskSystem) (plan : BoundedPlanValue) (order : List ℕ) → IsSharedSystem system
    → IsBoundAccepted system plan → IsSharedTraversal system order → plan.bound ≤ shared_peak_of system order
accepted_bound laws system plan order within accepted traversal =
    shown_bound laws system plan.evidence plan.bound order within accepted.shown traversal

abbrev pub BoundLaw : Type 0
BoundLaw = (system : SharedTaskSystem) (plan : BoundedPlanValue) (order : List ℕ) → IsSharedSystem system
    → IsBoundAccepted system plan → IsSharedTraversal system order → plan.bound ≤ shared_peak_of system order

pub least_accepted : BoundLaw → (system : SharedTaskSystem) (plan : BoundedPlanValue) → IsSharedSystem system
    → IsBoundAccepted system plan → plan.bound ≡ plan.peak → IsLeastShared system plan.peak
least_accepted law system plan within accepted same = record {
  order = plan.order;
  traversal = accepted.traversal;
  attained = accepted.peak;
  least = λ other traversal. let below = law system plan other within accepted traversal in omega (arith, below, same);
}
