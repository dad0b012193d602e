-- Accepted plans, and what is objected to first in a plan that is not accepted.
use Rattle.std.specs.Prelude.{◌≡◌, ℕ, pos, ◌≤ℤ◌, ◌+ℤ◌, ◌<◌, length, List, Some}
use Rattle.mp_system.specs.Memory.{peak_of}
use Rattle.mp_system.specs.System.{TaskSystem}
use Rattle.mp_system.specs.Traversal.{IsTraversal, first_fault}
use Rattle.sp_terms.specs.declared.position.Position.{Position}
use Rattle.claim_rules.specs.Claims.{Claim}
use Rattle.plans.specs.Plan.{PlanValue, claim_at}
use Rattle.claim_check.specs.declared.objection.Objection.{Objection}
use Rattle.claim_check.specs.declared.objection.Objection.TheVariants as objections
use Rattle.claim_check.specs.Judged.{PassesAt}
use Rattle.claim_check.specs.Shapes.{shape_at}

-- a claim on the whole term, which stands at the last position, has a bound of at least the plan's peak less 1
abbrev pub HasRoot : List Position → PlanValue → Type 0
HasRoot ps plan = (c : Claim) × (claim_at plan.claims (length ps) ≡ Some c) × (pos plan.peak ≤ℤ (c.bound +ℤ pos 1))

-- the order is a traversal, its peak is the plan's, and the claims certify that no traversal has a lower one
pub record IsAccepted (system : TaskSystem) (ps : List Position) (plan : PlanValue) : Type 0 where
  pub traversal : IsTraversal system plan.order
  pub peak : peak_of system plan.order ≡ plan.peak
  pub root : HasRoot ps plan
  pub claims : (k : ℕ) → PassesAt ps (claim_at plan.claims) k

-- what is objected to first: the order, the peak, the claim on the whole term, or the lowest claim that fails
abbrev pub IsObjection : TaskSystem → List Position → PlanValue → Objection → Type 0
IsObjection system ps plan (objections.Order fault) = first_fault system plan.order ≡ Some (fault.place, fault.kind)
IsObjection system ps plan (objections.Peak replayed printed) =
    IsTraversal system plan.order × (peak_of system plan.order ≡ replayed) × (plan.peak ≡ printed) × ¬ (replayed ≡ printed)
IsObjection system ps plan (objections.Root last) =
    IsTraversal system plan.order × (peak_of system plan.order ≡ plan.peak) × (length ps ≡ last) × ¬ (HasRoot ps plan)
IsObjection system ps plan (objections.Claim position shape) =
    IsTraversal system plan.order × (peak_of system plan.order ≡ plan.peak) × HasRoot ps plan
    × ((k : ℕ) → k < position → PassesAt ps (claim_at plan.claims) k) × ¬ (PassesAt ps (claim_at plan.claims) position)
    × (shape_at ps position ≡ shape)
