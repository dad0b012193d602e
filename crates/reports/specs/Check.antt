-- `check`: the verdict on a plan; and what a yes says: it speaks of the plan and of the input alone, whoever made the plan.
use Rattle.std.specs.Prelude.{◌≡◌, ℕ, List, [], ◌∷◌, ◌++◌, codes, decimal}
use Rattle.mp_text.specs.Report.{line_text}
use Rattle.mp_system.specs.System.{TaskSystem}
use Rattle.mp_system.specs.Memory.{peak_of}
use Rattle.mp_system.specs.Traversal.{IsTraversal, IsLeast}
use Rattle.sp_terms.specs.declared.position.Position.{Position}
use Rattle.plans.specs.Plan.{PlanValue}
use Rattle.claim_check.specs.declared.objection.Objection.{Objection}
use Rattle.claim_check.specs.declared.verdict.Verdict.{Verdict}
use Rattle.claim_check.specs.Verdicts.{IsVerdict}
use Rattle.requests.specs.Request.{Input}
use Rattle.mp_system.specs.Refusal.{word_of as order_word}
use Rattle.claim_check.specs.Shapes.{word_of as shape_word}
use Rattle.claim_check.specs.declared.objection.Objection.TheVariants as objections
use Rattle.claim_check.specs.declared.verdict.Verdict.TheVariants as verdicts
use Rattle.judging.specs.declared.status.Status.TheVariants as status
use Rattle.claim_check.specs.declared.verdict.Verdict.TheVariants.{Yes}
use Rattle.judging.specs.Files.{IsSystemOf, IsPlanFile, Answer, IsSystemWithTerm}

-- `yes PEAK`
abbrev pub yes_line : ℕ → List ℕ
yes_line peak = line_text (codes "yes" ∷ decimal peak ∷ [])

-- `no order PLACE KIND`, `no peak REPLAYED PRINTED`, `no root LAST` or `no claim POSITION SHAPE`
abbrev pub objection_line : Objection → List (List ℕ)
objection_line (objections.Order fault) = codes "no" ∷ codes "order" ∷ decimal fault.place ∷ order_word fault.kind ∷ []
objection_line (objections.Peak replayed printed) = codes "no" ∷ codes "peak" ∷ decimal replayed ∷ decimal printed ∷ []
objection_line (objections.Root last) = codes "no" ∷ codes "root" ∷ decimal last ∷ []
objection_line (objections.Claim position shape) = codes "no" ∷ codes "claim" ∷ decimal position ∷ shape_word shape ∷ []

abbrev pub verdict_answer : Verdict → Answer
verdict_answer (verdicts.Yes peak) = record { status = status.Done; text = yes_line peak }
verdict_answer (verdicts.No objection) = record { status = status.No; text = line_text (objection_line objection) }

-- the plan is accepted, or the first objection to it is told
abbrev pub IsCheck : TaskSystem → List Position → PlanValue → Answer → Type 0
IsCheck system positions plan answer = (verdict : Verdict) × IsVerdict system positions plan verdict × (answer ≡ verdict_answer verdict)

-- a check: the texts of the input's files, and that of the plan
abbrev pub IsCheckOf : Input → List (List ℕ) → Answer → Type 0
IsCheckOf input texts answer =
    (mine : List (List ℕ)) × (text : List ℕ) × (system : TaskSystem) × (positions : List Position) × (plan : PlanValue)
    × (texts ≡ mine ++ text ∷ []) × IsSystemWithTerm input mine system positions × IsPlanFile text plan
    × IsCheck system positions plan answer

-- the order of the plan is a traversal of the input's system, its peak is the one that the plan states and that was printed, and no
-- traversal has a lower one; the texts are those of the input's files and that of the plan
pub record IsCertified (input : Input) (texts : List (List ℕ)) (printed : List ℕ) : Type 0 where
  pub mine : List (List ℕ)
  pub text : List ℕ
  pub texts_are : texts ≡ mine ++ text ∷ []
  pub system : TaskSystem
  pub is_system : IsSystemOf input mine system
  pub plan : PlanValue
  pub is_plan : IsPlanFile text plan
  pub traversal : IsTraversal system plan.order
  pub peak : peak_of system plan.order ≡ plan.peak
  pub least : IsLeast system plan.peak
  pub printed_is : printed ≡ yes_line plan.peak
