-- The text of a workflow: the file, of version 1 or 2, that is printed for it. Workflow files are this project's own format.
use Rattle.std.specs.Prelude.{◌==◌, ℕ, Bool, false, not, if◌then◌else◌, List, [], ◌∷◌, ◌++◌, map, codes}
use Rattle.std.specs.Fmt.{decimal}
use Rattle.std.specs.List.{list_any, sum_by}
use Rattle.file_frame.specs.declared.version.Version.{Version}
use Rattle.file_frame.specs.declared.version.Version.TheVariants.{One, Two}
use Rattle.mp_text.specs.Report.{text_of_lines}
use Rattle.sp_terms.specs.declared.position.Position.{Position}
use Rattle.sp_terms.specs.declared.position.Position.TheVariants.{Hold, Par}
use Rattle.sp_terms.specs.declared.position.Position.TheVariants as at
use Rattle.sp_terms.specs.Values.{added_tasks}
use Rattle.file_frame.specs.Printed.{header_line, section_line, end_line}

-- the line of a position: `data D`, `task X T` or `task X S T`, or `par K`
abbrev pub position_word : Position → List ℕ
position_word (Hold size) = codes "data"
position_word (at.Task extra share time) = codes "task"
position_word (Par parts) = codes "par"

abbrev pub task_numbers : Version → ℕ → ℕ → ℕ → List ℕ
task_numbers One extra share time = extra ∷ time ∷ []
task_numbers Two extra share time = extra ∷ share ∷ time ∷ []

abbrev pub position_numbers : Version → Position → List ℕ
position_numbers version (Hold size) = size ∷ []
position_numbers version (at.Task extra share time) = task_numbers version extra share time
position_numbers version (Par parts) = parts ∷ []

abbrev pub position_line : Version → Position → List (List ℕ)
position_line version p = position_word p ∷ map decimal (position_numbers version p)

-- the lines of a file of this version
abbrev pub workflow_lines : Version → List Position → List (List (List ℕ))
workflow_lines version positions =
    header_line (codes "workflow") version ∷ section_line (codes "tasks") (sum_by added_tasks positions)
    ∷ (map (position_line version) positions ++ end_line ∷ [])

abbrev pub workflow_text_in : Version → List Position → List ℕ
workflow_text_in version positions = text_of_lines (workflow_lines version positions)

-- whether the position is a task with a share other than 0
abbrev pub is_sharing : Position → Bool
is_sharing (Hold size) = false
is_sharing (at.Task extra share time) = not (share == 0)
is_sharing (Par parts) = false

-- the version that a workflow needs: 1 where every share is 0, else 2
abbrev pub workflow_version_for : List Position → Version
workflow_version_for positions = if list_any is_sharing positions then Two else One

-- the text of a workflow, and its text in version 2
abbrev pub workflow_text : List Position → List ℕ
workflow_text positions = workflow_text_in (workflow_version_for positions) positions

abbrev pub workflow_text_2 : List Position → List ℕ
workflow_text_2 positions = workflow_text_in Two positions
