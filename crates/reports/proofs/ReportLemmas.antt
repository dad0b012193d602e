-- What `check` and `plan` answer.
use Rattle.std.proofs.Common.{◌≡◌, ℕ, List, [], ◌∷◌, ◌++◌, refl}
use Rattle.least_peak.specs.Problem.{system_of, IsTermOf}
use Rattle.least_peak.specs.declared.problem.Origin.{Origin}
use Rattle.sp_terms.specs.declared.position.Position.{Position}
use Rattle.plans.specs.Plan.{PlanValue, IsPlan}
use Rattle.claim_check.specs.Accepted.{IsAccepted}
use Rattle.claim_check.specs.Verdicts.{IsVerdict}
use Rattle.claim_check.specs.declared.verdict.Verdict.{Verdict}
use Rattle.reports.specs.Reports.{IsReport}
use Rattle.reports.specs.Check.{verdict_answer}
use Rattle.judging.specs.Files.{Answer, IsPlanFile}
use Rattle.reports.specs.Plan.{plan_answer}
use Rattle.judging.specs.Judged.{IsProblemOf}
use Rattle.requests.specs.Request.{Input, PlanFormat, check, planning}
use Rattle.judging.proofs.InputLemmas.{problem_has_term}

-- ---- a check

pub checked : (input : Input) (mine : List (List ℕ)) (text : List ℕ) (origin : Origin) (plan : PlanValue) (name : List ℕ) (workers : ℕ)
    → IsProblemOf input mine origin → IsPlanFile text plan → (positions : List Position) (verdict : Verdict) (answer : Answer)
    → IsTermOf origin positions → IsVerdict (system_of origin) positions plan verdict → answer ≡ verdict_answer verdict
    → IsReport (check input name workers) (mine ++ text ∷ []) answer
checked input mine text origin plan name workers is_problem is_plan positions verdict answer term holds is = (
  mine,
  text,
  system_of origin,
  positions,
  plan,
  refl,
  problem_has_term input mine origin positions is_problem term,
  is_plan,
  (verdict, holds, is),
)

-- ---- a plan

pub planned : (input : Input) (format : PlanFormat) (texts : List (List ℕ))
    (origin : Origin) (positions : List Position) (plan : PlanValue) (answer : Answer)
    → IsProblemOf input texts origin → IsTermOf origin positions → IsPlan plan
    → IsAccepted (system_of origin) positions plan → plan.priority ≡ []
    → answer ≡ plan_answer format plan → IsReport (planning input format) texts answer
planned input format texts origin positions plan answer is_problem term within accepted no_priority is = record {
  system = system_of origin;
  positions = positions;
  with_term = problem_has_term input texts origin positions is_problem term;
  plan = plan;
  within = within;
  accepted = accepted;
  no_priority = no_priority;
  answer_is = is;
}
