-- No public clause names this.
-- What is judged before the claims.
use Rattle.std.specs.Prelude.{◌≡◌, List}
use Rattle.mp_system.specs.Memory.{peak_of}
use Rattle.mp_system.specs.System.{TaskSystem}
use Rattle.mp_system.specs.Traversal.{IsTraversal}
use Rattle.sp_terms.specs.declared.position.Position.{Position}
use Rattle.plans.specs.Plan.{PlanValue}
use Rattle.claim_check.specs.Accepted.{HasRoot, IsObjection}
use Rattle.claim_check.specs.declared.opening.Early.{Early}
use Rattle.claim_check.specs.declared.opening.Early.TheVariants as early

-- the order, the peak and the claim on the whole term are as they have to be
pub record IsSettled (system : TaskSystem) (ps : List Position) (plan : PlanValue) : Type 0 where
  pub traversal : IsTraversal system plan.order
  pub peak : peak_of system plan.order ≡ plan.peak
  pub root : HasRoot ps plan

-- why the claims are not judged
abbrev pub IsEarly : TaskSystem → List Position → PlanValue → Early → Type 0
IsEarly system ps plan early.NoMemory = Unit {0}
IsEarly system ps plan (early.Objection objection) = IsObjection system ps plan objection
