-- The text of a plan: the file, of version 1 or 2, that is printed for it. Plan files are this project's own format.
use Rattle.std.specs.Prelude.{ℕ, List, [], ◌∷◌, ◌++◌, length, map, codes}
use Rattle.std.specs.Fmt.{decimal, signed_decimal}
use Rattle.file_frame.specs.declared.version.Version.{Version}
use Rattle.file_frame.specs.declared.version.Version.TheVariants.{One, Two}
use Rattle.mp_text.specs.Report.{text_of_lines}
use Rattle.plans.specs.Plan.{PlanValue}
use Rattle.plans.specs.declared.claim.Claim.{Claim}
use Rattle.plans.specs.declared.claim.Direction.{Direction}
use Rattle.plans.specs.declared.claim.Direction.TheVariants.{Forward, Backward}
use Rattle.file_frame.specs.Printed.{header_line, section_line, end_line}

-- an order line or a priority line
abbrev pub task_line : ℕ → List (List ℕ)
task_line task = decimal task ∷ []

abbrev pub dir_word : Direction → List ℕ
dir_word Forward = codes "F"
dir_word Backward = codes "R"

abbrev pub claim_line : Claim → List (List ℕ)
claim_line c = decimal c.position ∷ dir_word c.dir ∷ signed_decimal c.bound ∷ decimal c.rest ∷ []

-- how many tasks there are, and each on a line
abbrev pub task_lines : List ℕ → List ℕ → List (List (List ℕ))
task_lines word tasks = section_line word (length tasks) ∷ map task_line tasks

abbrev pub claim_lines : List Claim → List (List (List ℕ))
claim_lines claims = section_line (codes "claims") (length claims) ∷ map claim_line claims

-- the lines of the priority, which only version 2 has
abbrev pub priority_lines : Version → List ℕ → List (List (List ℕ))
priority_lines One priority = []
priority_lines Two priority = task_lines (codes "priority") priority

-- the lines after the priority
abbrev pub last_lines : PlanValue → List (List (List ℕ))
last_lines plan = section_line (codes "peak") plan.peak ∷ (claim_lines plan.claims ++ end_line ∷ [])

-- the lines of a file of this version
abbrev pub plan_lines : Version → PlanValue → List (List (List ℕ))
plan_lines version plan =
    header_line (codes "plan") version ∷ (task_lines (codes "order") plan.order ++ (priority_lines version plan.priority ++ last_lines plan))

abbrev pub plan_text_in : Version → PlanValue → List ℕ
plan_text_in version plan = text_of_lines (plan_lines version plan)

-- the version that a priority needs: 1 where it is empty, else 2
abbrev pub plan_version_for : List ℕ → Version
plan_version_for [] = One
plan_version_for (task ∷ tasks) = Two

-- the text of a plan, and its text in version 2
abbrev pub plan_text : PlanValue → List ℕ
plan_text plan = plan_text_in (plan_version_for plan.priority) plan

abbrev pub plan_text_2 : PlanValue → List ℕ
plan_text_2 plan = plan_text_in Two plan
