-- What the judge says, from what its parts say.
use Rattle.std.proofs.Common.{◌≡◌, sym, ap, ◌∙◌, subst, ℕ, pos, ◌≤ℤ◌, ◌+ℤ◌, Bool, List, length, IsTrue, Option, Some, None, arith}
use Rattle.std.specs.Prelude.{◌↔◌, option_map}
use Rattle.mp_system.specs.Memory.{peak_of}
use Rattle.mp_system.specs.System.{TaskSystem}
use Rattle.mp_system.specs.Traversal.{IsTraversal}
use Rattle.sp_terms.specs.declared.position.Position.{Position}
use Rattle.claim_rules.specs.Claims.{Claim as RuleClaim}
use Rattle.plans.specs.declared.claim.Claim.{Claim}
use Rattle.plans.specs.Plan.{PlanValue, claim_of, claim_at}
use Rattle.claim_check.specs.Accepted.{HasRoot}
use Rattle.claim_check.specs.Claimed.{Claimed}
use Rattle.claim_check.specs.Lowest.{IsLowestFrom}
use Rattle.claim_check.specs.Opening.{IsSettled}
use Rattle.claim_check.specs.Shapes.{shape_at}
use Rattle.claim_check.specs.Verdicts.{IsVerdict}
use Rattle.claim_check.specs.declared.objection.Objection.TheVariants as objections
use Rattle.claim_check.specs.declared.shape.Shape.{Shape}
use Rattle.claim_check.specs.declared.verdict.Verdict.{Verdict}
use Rattle.claim_check.specs.declared.verdict.Verdict.TheVariants.{Yes, No}

-- the claim that stands at the last position
pub root_at : (ps : List Position) (plan : PlanValue) (cs : List Claim) (last : ℕ) (o : Option Claim) (c : Claim) (peak : ℕ) (answer : Bool)
    → peak ≡ plan.peak → cs ≡ plan.claims → last ≡ length ps → option_map claim_of o ≡ claim_at cs last → o ≡ Some c
    → IsTrue answer ↔ (pos peak ≤ℤ (c.bound +ℤ pos 1)) → IsTrue answer ↔ HasRoot ps plan
root_at ps plan cs last o c peak answer peak_is claims is_last at is judged =
    let here : claim_at plan.claims (length ps) ≡ Some (claim_of c) =
    subst (λ n. claim_at plan.claims n ≡ Some (claim_of c)) is_last
    (subst (λ l. claim_at l last ≡ Some (claim_of c)) claims (sym at ∙ ap (option_map claim_of) is)) in (
      (λ t. (claim_of c, here, subst (λ n. pos n ≤ℤ (c.bound +ℤ pos 1)) peak_is (judged.0 t))),
      (λ h. judged.1 (subst (λ n. pos n ≤ℤ (c.bound +ℤ pos 1)) (sym peak_is)
          (subst (λ (x : RuleClaim). pos plan.peak ≤ℤ (x.bound +ℤ pos 1)) (same (sym h.1 ∙ here)) h.2))),
    )
  where
    same : {x y : RuleClaim} → Some x ≡ Some y → x ≡ y
    same e = cc

pub settled : (system : TaskSystem) (ps : List Position) (plan : PlanValue) (order : List ℕ) (replayed printed : ℕ)
    → (claims : List Claim) (view : Claimed) → order ≡ plan.order
    → IsTraversal system order × (replayed ≡ peak_of system order) → printed ≡ plan.peak → replayed ≡ printed
    → view ≡ record { positions = ps; claims = claims } → HasRoot view.positions plan → IsSettled system ps plan
settled system ps plan order replayed printed claims view order_is walked printed_is same view_is root = record {
  traversal = subst (IsTraversal system) order_is walked.0;
  peak = ap (peak_of system) (sym order_is) ∙ sym walked.1 ∙ same ∙ printed_is;
  root = subst (λ (v : Claimed). HasRoot v.positions plan) view_is root;
}

-- what is said of the claims of a view is said of those of the plan
pub of_plan : (ps : List Position) (plan : PlanValue) (claims : List Claim) (r s : Option ℕ)
    → claims ≡ plan.claims → r ≡ s → IsLowestFrom ps (claim_at claims) 0 r → IsLowestFrom ps (claim_at plan.claims) 0 s
of_plan ps plan claims r s claims_is is low =
    subst (IsLowestFrom ps (claim_at plan.claims) 0) is (subst (λ cs. IsLowestFrom ps (claim_at cs) 0 r) claims_is low)

pub said_yes : (system : TaskSystem) (ps : List Position) (plan : PlanValue) (peak : ℕ) → IsSettled system ps plan → peak ≡ plan.peak
    → IsLowestFrom ps (claim_at plan.claims) 0 None → IsVerdict system ps plan (Yes peak)
said_yes system ps plan peak s is low = (
  record { traversal = s.traversal; peak = s.peak; root = s.root; claims = λ k. low k (omega arith) },
  sym is,
)

pub said_no : (system : TaskSystem) (ps : List Position) (plan : PlanValue) (position : ℕ) (shape : Shape)
    → IsSettled system ps plan → IsLowestFrom ps (claim_at plan.claims) 0 (Some position)
    → shape ≡ shape_at ps position → IsVerdict system ps plan (No (objections.Claim position shape))
said_no system ps plan position shape s low shape_is = (
  s.traversal,
  s.peak,
  s.root,
  (λ k lt. low.2 k (omega arith) lt),
  low.1,
  sym shape_is,
)

-- what is said of a view is said of the term
pub of_view : (system : TaskSystem) (ps : List Position) (claims : List Claim) (plan : PlanValue) (view : Claimed) (verdict : Verdict)
    → view ≡ record { positions = ps; claims = claims } → IsSettled system ps plan
    → (IsSettled system view.positions plan → IsVerdict system view.positions plan verdict) → IsVerdict system ps plan verdict
of_view system ps claims plan view verdict is s said =
    subst (λ (v : Claimed). IsVerdict system v.positions plan verdict) is
    (said (subst (λ (v : Claimed). IsSettled system v.positions plan) (sym is) s))
