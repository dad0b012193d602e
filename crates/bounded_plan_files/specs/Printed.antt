-- The text of a plan with a bound: the file of version 3 that is printed for it; and the part of it that has the bound and its evidence.
use Rattle.std.specs.Prelude.{ℕ, List, [], ◌∷◌, ◌++◌, length, map, codes}
use Rattle.std.specs.Fmt.{decimal, signed_decimal}
use Rattle.std.specs.List.{flat_map}
use Rattle.mp_text.specs.Report.{text_of_lines}
use Rattle.file_frame.specs.Printed.{section_line, end_line}
use Rattle.plan_files.specs.Printed.{task_lines, claim_lines}
use Rattle.peak_bounds.specs.declared.step.Event.{Event}
use Rattle.peak_bounds.specs.declared.step.Event.TheVariants.{First, Last}
use Rattle.peak_bounds.specs.declared.evidence.Amount.{Amount}
use Rattle.peak_bounds.specs.declared.evidence.Evidence.TheVariants.{Start, Need, Set}
use Rattle.peak_bounds.specs.EventSets.{BlockerValue, EventSetValue}
use Rattle.bounded_plans.specs.BoundedPlan.{BoundedPlanValue}
use Rattle.bounded_plans.specs.declared.evidence.BoundEvidence.{BoundEvidence}
use Rattle.bounded_plans.specs.declared.evidence.BoundEvidence.TheVariants.{Sums, Claims, States}

abbrev pub amount_line : Amount → List (List ℕ)
amount_line a = decimal a.place ∷ signed_decimal a.amount ∷ []

-- a blocker's line, and the lines of its amounts
abbrev pub blocker_line : BlockerValue → List (List ℕ)
blocker_line blocker = codes "blocker" ∷ decimal blocker.task ∷ decimal (length blocker.amounts) ∷ []

abbrev pub blocker_lines : BlockerValue → List (List (List ℕ))
blocker_lines blocker = blocker_line blocker ∷ map amount_line blocker.amounts

abbrev pub event_word : Event → List ℕ
event_word First = codes "first"
event_word Last = codes "last"

abbrev pub set_lines : EventSetValue → List (List (List ℕ))
set_lines set =
    section_line (event_word set.event) (length set.blockers)
    ∷ section_line (codes "base") (length set.base)
    ∷ (map amount_line set.base ++ flat_map blocker_lines set.blockers)

-- what is there before any task has run is told as the need of task 0, which is no task
abbrev pub evidence_lines : BoundEvidence → List (List (List ℕ))
evidence_lines (Sums Start) = section_line (codes "need") 0 ∷ []
evidence_lines (Sums (Need task)) = section_line (codes "need") task ∷ []
evidence_lines (Sums (Set set)) = set_lines set
evidence_lines (Claims claims) = claim_lines claims
evidence_lines (States most) = section_line (codes "states") most ∷ []

-- the bound and its evidence
abbrev pub bound_lines : ℕ → BoundEvidence → List (List (List ℕ))
bound_lines bound evidence = section_line (codes "bound") bound ∷ (evidence_lines evidence ++ end_line ∷ [])

-- the lines before them
abbrev pub head_lines : BoundedPlanValue → List (List (List ℕ))
head_lines plan =
    (codes "plan" ∷ codes "3" ∷ [])
    ∷ (task_lines (codes "order") plan.order ++ section_line (codes "peak") plan.peak ∷ [])

abbrev pub bounded_plan_lines : BoundedPlanValue → List (List (List ℕ))
bounded_plan_lines plan = head_lines plan ++ bound_lines plan.bound plan.evidence

-- the text of the bound and its evidence, with `end`
abbrev pub bound_text : ℕ → BoundEvidence → List ℕ
bound_text bound evidence = text_of_lines (bound_lines bound evidence)

-- the text of a plan with a bound
abbrev pub bounded_plan_text : BoundedPlanValue → List ℕ
bounded_plan_text plan = text_of_lines (bounded_plan_lines plan)
