-- `plan`: a traversal of least peak, and a certificate of that, which `check` accepts.
use Rattle.std.specs.Prelude.{◌≡◌, ℕ, List, [], ◌∷◌, ◌++◌}
use Rattle.mp_text.specs.Report.{line_text}
use Rattle.mp_system.specs.System.{TaskSystem}
use Rattle.mp_system.specs.Memory.{peak_of}
use Rattle.mp_system.specs.Traversal.{IsTraversal, IsLeast}
use Rattle.sp_terms.specs.declared.position.Position.{Position}
use Rattle.plans.specs.Plan.{PlanValue, IsPlan}
use Rattle.plan_files.specs.Json.{json_of}
use Rattle.requests.specs.Request.{Input, PlanFormat, as_file, as_json}
use Rattle.plan_files.specs.Printed as plans
use Rattle.claim_check.specs.Accepted as judged
use Rattle.judging.specs.declared.status.Status.TheVariants as status
use Rattle.claim_check.specs.declared.verdict.Verdict.TheVariants.{Yes}
use Rattle.judging.specs.Files.{IsSystemOf, IsPlanFile, Answer, IsSystemWithTerm}
use Rattle.reports.specs.Check.{IsCheckOf, verdict_answer}

-- the plan file of a plan, or its JSON on a line
abbrev pub plan_printed : PlanFormat → PlanValue → List ℕ
plan_printed as_file plan = plans.plan_text plan
plan_printed as_json plan = line_text (json_of plan ∷ [])

abbrev pub plan_answer : PlanFormat → PlanValue → Answer
plan_answer format plan = record { status = status.Done; text = plan_printed format plan }

-- a plan of the input's system and term that is accepted and has no priority, whichever it is; the texts are those of the input's files
pub record IsPlanOf (input : Input) (format : PlanFormat) (texts : List (List ℕ)) (answer : Answer) : Type 0 where
  pub system : TaskSystem
  pub positions : List Position
  pub with_term : IsSystemWithTerm input texts system positions
  pub plan : PlanValue
  pub within : IsPlan plan
  pub accepted : judged.IsAccepted system positions plan
  pub no_priority : plan.priority ≡ []
  pub answer_is : answer ≡ plan_answer format plan

-- a plan file is printed as it is, or its plan as JSON
abbrev pub IsPrintedAs : PlanFormat → PlanValue → List ℕ → List ℕ → Type 0
IsPrintedAs as_file plan file printed = printed ≡ file
IsPrintedAs as_json plan file printed = printed ≡ plan_printed as_json plan

-- a plan file is printed, or the JSON of its plan; its order is a traversal of the input's system, whose peak is the one that the plan
-- states, and no traversal has a lower one; and `check` of this file over the same input answers yes with that peak.
-- The texts are those of the input's files
pub record IsBestPlan (input : Input) (format : PlanFormat) (texts : List (List ℕ)) (printed : List ℕ) : Type 0 where
  pub system : TaskSystem
  pub is_system : IsSystemOf input texts system
  pub plan : PlanValue
  pub file : List ℕ
  pub is_plan : IsPlanFile file plan
  pub printed_is : IsPrintedAs format plan file printed
  pub traversal : IsTraversal system plan.order
  pub peak : peak_of system plan.order ≡ plan.peak
  pub least : IsLeast system plan.peak
  pub checked : IsCheckOf input (texts ++ file ∷ []) (verdict_answer (Yes plan.peak))
