-- What is objected to in a plan with a bound.
use Rattle.std.specs.Prelude.{◌≡◌, ◌≢◌, ℕ, ◌<◌, length, List, Some}
use Rattle.sp_terms.specs.declared.position.Position.{Position}
use Rattle.plans.specs.declared.claim.Claim.{Claim}
use Rattle.plans.specs.Plan.{claim_at}
use Rattle.claim_check.specs.Judged.{PassesAt}
use Rattle.claim_check.specs.Shapes.{shape_at}
use Rattle.shared_systems.specs.Shared.{SharedTaskSystem}
use Rattle.shared_systems.specs.SharedMemory.{shared_peak_of}
use Rattle.shared_systems.specs.SharedTraversal.{IsSharedTraversal, first_shared_fault}
use Rattle.shared_reduce.specs.SharedTerm.{IsRefusedTerm}
use Rattle.shared_reduce.specs.declared.refusal.SharedReduceRefusal.{SharedReduceRefusal}
use Rattle.shared_reduce.specs.declared.refusal.SharedReduceRefusal.TheVariants.{NoMemory}
use Rattle.peak_bounds.specs.Evidence.{IsObjection}
use Rattle.bounded_plans.specs.BoundedPlan.{BoundedPlanValue}
use Rattle.bounded_plans.specs.declared.evidence.BoundEvidence.{BoundEvidence}
use Rattle.bounded_plans.specs.declared.evidence.BoundEvidence.TheVariants.{Sums, Claims, States}
use Rattle.state_search.specs.Shown.{IsStatesObjection}
use Rattle.bound_check.specs.Shown.{HasRootFor, AreTermOf}
use Rattle.bound_check.specs.declared.objection.BoundObjection.{BoundObjection}
use Rattle.bound_check.specs.declared.objection.BoundObjection.TheVariants as objections

-- the order is a traversal, and its peak is the plan's
pub record IsReplayed (system : SharedTaskSystem) (plan : BoundedPlanValue) : Type 0 where
  pub traversal : IsSharedTraversal system plan.order
  pub peak : shared_peak_of system plan.order ≡ plan.peak

-- no term is made that tells the orders of the system, for this reason, which is not want of memory: why there is none, or that it would have
-- too many arcs
abbrev pub IsWithoutTerm : SharedTaskSystem → Type 0
IsWithoutTerm system = (refusal : SharedReduceRefusal) × (refusal ≢ NoMemory) × IsRefusedTerm system refusal

-- over a term: there is no claim for the bound on the whole, or there is one, and this is the lowest claim that fails
abbrev pub IsClaimObjection : List Position → List Claim → ℕ → BoundObjection → Type 0
IsClaimObjection ps claims bound (objections.Root last) = (length ps ≡ last) × ¬ (HasRootFor ps claims bound)
IsClaimObjection ps claims bound (objections.Claim position shape) =
    HasRootFor ps claims bound × ((k : ℕ) → k < position → PassesAt ps (claim_at claims) k)
    × ¬ (PassesAt ps (claim_at claims) position) × (shape_at ps position ≡ shape)
IsClaimObjection ps claims bound _ = ⊥

-- what is said against evidence. A system may have several terms: over which of them claims were judged is not said, and over another one
-- the same claims may fail elsewhere, or nowhere
abbrev pub IsEvidenceObjection : SharedTaskSystem → BoundEvidence → ℕ → BoundObjection → Type 0
IsEvidenceObjection system (Sums evidence) bound (objections.Sums objection) = IsObjection system evidence bound objection
IsEvidenceObjection system (Sums evidence) bound _ = ⊥
IsEvidenceObjection system (Claims claims) bound objections.NoTerm = IsWithoutTerm system
IsEvidenceObjection system (Claims claims) bound objection =
    (ps : List Position) × AreTermOf system ps × IsClaimObjection ps claims bound objection
IsEvidenceObjection system (States most) bound (objections.States objection) = IsStatesObjection system bound most objection
IsEvidenceObjection system (States most) bound _ = ⊥

-- the first of these, where all before it passed: the order, the peak, and then the evidence
abbrev pub IsBoundObjection : SharedTaskSystem → BoundedPlanValue → BoundObjection → Type 0
IsBoundObjection system plan (objections.Order fault) = first_shared_fault system plan.order ≡ Some (fault.place, fault.kind)
IsBoundObjection system plan (objections.Peak replayed printed) =
    IsSharedTraversal system plan.order × (shared_peak_of system plan.order ≡ replayed) × (plan.peak ≡ printed) × (replayed ≢ printed)
IsBoundObjection system plan objection = IsReplayed system plan × IsEvidenceObjection system plan.evidence plan.bound objection
