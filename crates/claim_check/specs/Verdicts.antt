-- What is said of a plan.
use Rattle.std.specs.Prelude.{◌≡◌, List}
use Rattle.mp_system.specs.System.{TaskSystem}
use Rattle.sp_terms.specs.declared.position.Position.{Position}
use Rattle.plans.specs.Plan.{PlanValue}
use Rattle.claim_check.specs.Accepted.{IsAccepted, IsObjection}
use Rattle.claim_check.specs.declared.verdict.Verdict.{Verdict}
use Rattle.claim_check.specs.declared.verdict.Verdict.TheVariants.{Yes, No}

-- yes, with its peak, to an accepted plan; to any other its first objection
abbrev pub IsVerdict : TaskSystem → List Position → PlanValue → Verdict → Type 0
IsVerdict system ps plan (Yes peak) = IsAccepted system ps plan × (plan.peak ≡ peak)
IsVerdict system ps plan (No objection) = IsObjection system ps plan objection
