-- Workflow files of version 1, and of version 2, whose tasks have a share: what a file reads as, and what it is refused with. They are
-- this project's own format.
use Rattle.std.specs.Prelude.{◌≡◌, ◌==◌, ℕ, ◌-◌, Bool, true, false, ◌&&◌, not, nat_le, is_some, unwrap_or, Option, Some, None, List, []}
use Rattle.std.specs.Prelude.{◌∷◌, ◌++◌, length, map, take, drop, codes, if◌then◌else◌}
use Rattle.std.specs.List.{sum_by, list_any}
use Rattle.std.specs.Option.{option_map}
use Rattle.std.specs.Str.{bytes_eq}
use Rattle.mp_system.specs.declared.system.Task.{Task}
use Rattle.limits.specs.Limits.{most_tasks}
use Rattle.limits.specs.declared.name.LimitName.{LimitName}
use Rattle.limits.specs.declared.name.LimitName.TheVariants as limits
use Rattle.mp_text.specs.declared.layout.Layout.TheVariants.{Commented}
use Rattle.mp_text.specs.declared.refusals.Refusal.{Refusal}
use Rattle.mp_text.specs.declared.refusals.Refusal.TheVariants as refusals
use Rattle.file_frame.specs.declared.version.Version.{Version}
use Rattle.file_frame.specs.declared.version.Version.TheVariants.{One, Two}
use Rattle.mp_text.specs.Text.{Row, numbers_of}
use Rattle.mp_text.specs.Ahead.{rows_of_bytes, past_of_bytes}
use Rattle.mp_text.specs.Grammar.{Test, test, Format, IsWellFormed, Refuses, fault, fault_at, token_at}
use Rattle.workflow_files.specs.declared.kind.WorkflowKind.{WorkflowKind}
use Rattle.workflow_files.specs.declared.kind.WorkflowKind.TheVariants as kinds
use Rattle.workflow_files.specs.declared.word.Word.{Word}
use Rattle.workflow_files.specs.declared.word.Word.TheVariants as words
use Rattle.sp_terms.specs.declared.position.Position.{Position}
use Rattle.sp_terms.specs.declared.position.Position.TheVariants.{Hold, Par}
use Rattle.sp_terms.specs.declared.position.Position.TheVariants as at
use Rattle.sp_terms.specs.Postfix.{at_task}
use Rattle.sp_terms.specs.Values.{stack_of, added_tasks}
use Rattle.sp_terms.specs.Builder.{is_short, limit_of, is_overshared}
use Rattle.file_frame.specs.Frame.{header_tests, version_stated, stated_on, count_tests, further_tests, end_tests, first_then, has_first}

-- ---- line 1: `workflow 1` or `workflow 2`

abbrev pub workflow_header_tests : Row → List (Test WorkflowKind)
workflow_header_tests row = header_tests (codes "workflow") Two kinds.Header row

abbrev pub workflow_version : Row → Version
workflow_version header = version_stated (codes "workflow") Two header

-- ---- line 2: `tasks N`

abbrev pub workflow_count : Row → ℕ
workflow_count row = stated_on (codes "tasks") row

abbrev pub workflow_count_tests : Row → List (Test WorkflowKind)
workflow_count_tests row = count_tests (codes "tasks") kinds.Header kinds.Number most_tasks limits.Tasks row

-- ---- a position line: `data D`, `task X T`, in version 2 `task X S T`, or `par K`

abbrev pub word_spelled : List ℕ → Option Word
word_spelled token =
    if bytes_eq token (codes "data") then Some words.Data
    else (if bytes_eq token (codes "task") then Some words.Task
    else (if bytes_eq token (codes "par") then Some words.Par
    else None))

-- the word that a line begins with
abbrev pub word_stated : Row → Option Word
word_stated row = word_spelled (token_at 0 row)

-- the number of a line that has just one
abbrev pub only : Option (List ℕ) → Option ℕ
only (Some (n ∷ [])) = Some n
only _ = None

-- a task of just these numbers: extra and time, in version 2 extra, share and time
abbrev pub task_from : Version → Option (List ℕ) → Option Task
task_from One (Some (extra ∷ time ∷ [])) = Some (record { extra = extra; share = 0; time = time })
task_from Two (Some (extra ∷ share ∷ time ∷ [])) = Some (record { extra = extra; share = share; time = time })
task_from _ _ = None

-- the position that a word and the numbers after it state
abbrev pub position_from : Version → Option Word → Option (List ℕ) → Option Position
position_from version (Some words.Data) numbers = option_map Hold (only numbers)
position_from version (Some words.Task) numbers = option_map at_task (task_from version numbers)
position_from version (Some words.Par) numbers = option_map Par (only numbers)
position_from version None numbers = None

abbrev pub position_stated : Version → Row → Option Position
position_stated version row = position_from version (word_stated row) (numbers_of (drop 1 row.tokens))

-- where none is stated, a test before those of a position fails
abbrev pub stated_or : Option Position → Position
stated_or stated = unwrap_or stated (Hold 0)

abbrev pub position_of : Version → Row → Position
position_of version row = stated_or (position_stated version row)

-- a time of at least 1, two parts or more
abbrev pub is_position : Position → Bool
is_position (Hold size) = true
is_position (at.Task extra share time) = not (time == 0)
is_position (Par parts) = nat_le 2 parts

-- a task more than line 2 says
abbrev pub is_too_many : ℕ → ℕ → Position → Bool
is_too_many count tasks (at.Task extra share time) = nat_le count tasks
is_too_many _ _ _ = false

-- the form of a position that is stated, in a file of so many tasks, after lines that left so many terms and had so many tasks
abbrev pub stated_tests : ℕ → ℕ → ℕ → Option Position → ℕ → List (Test WorkflowKind)
stated_tests count height tasks stated line =
    test (is_some stated && is_position (stated_or stated)) (fault_at line kinds.Number)
    ∷ test (not (is_short height (stated_or stated))) (fault_at line kinds.StackShort)
    ∷ test (not (is_too_many count tasks (stated_or stated))) (fault_at line kinds.TaskCount)
    ∷ []

-- the form of a position line
abbrev pub form_tests : Version → ℕ → ℕ → ℕ → Row → List (Test WorkflowKind)
form_tests version count height tasks row =
    test (is_some (word_stated row)) (fault kinds.Word row) ∷ stated_tests count height tasks (position_stated version row) row.number

-- no limit is passed; those of a position are the builder's
abbrev pub limit_tests : Option LimitName → List (Test WorkflowKind)
limit_tests None = []
limit_tests (Some name) = test false (refusals.Limit name) ∷ []

-- the limits that a position keeps to after others, and its share
abbrev pub room_tests : List Position → Position → ℕ → List (Test WorkflowKind)
room_tests before p line =
    limit_tests (limit_of before p) ++ test (not (is_overshared p (stack_of before))) (fault_at line kinds.Share) ∷ []

-- a position line after lines that state these positions
abbrev pub position_tests : Version → ℕ → List Position → Row → List (Test WorkflowKind)
position_tests version count before row =
    form_tests version count (length (stack_of before)) (sum_by added_tasks before) row
    ++ room_tests before (position_of version row) row.number

-- ---- the last line, `end`, where one term is left and the tasks are as many as stated; then no line

-- whether the line begins with the word
abbrev pub begins_end : Row → Bool
begins_end row = bytes_eq (token_at 0 row) (codes "end")

abbrev pub workflow_last_tests : ℕ → ℕ → ℕ → Row → List (Test WorkflowKind)
workflow_last_tests count height tasks row =
    test (length row.tokens == 1) (fault kinds.Number row)
    ∷ test (height == 1) (fault kinds.NotOneTerm row)
    ∷ test (tasks == count) (fault kinds.TaskCount row)
    ∷ []

-- ---- all lines

-- a line after the second, after lines that state these positions
abbrev pub workflow_body_tests : Version → ℕ → List Position → Row → List (Test WorkflowKind)
workflow_body_tests version count before row =
    if begins_end row
    then workflow_last_tests count (length (stack_of before)) (sum_by added_tasks before) row
    else position_tests version count before row

abbrev pub workflow_line_tests : List Row → Row → List (Test WorkflowKind)
workflow_line_tests =
    first_then workflow_header_tests (λ header.
    first_then workflow_count_tests (λ counted rows row.
    if list_any begins_end rows
    then further_tests kinds.Word row
    else workflow_body_tests (workflow_version header) (workflow_count counted) (map (position_of (workflow_version header)) rows) row))

-- whether the text has come to its `end`
abbrev pub is_workflow_complete : List Row → Bool
is_workflow_complete = has_first (λ header. has_first (λ counted rows. list_any begins_end rows))

abbrev pub workflow_end_tests : List Row → ℕ → List (Test WorkflowKind)
workflow_end_tests rows past = end_tests (is_workflow_complete rows) kinds.NoEnd past

abbrev pub workflow_format : Format WorkflowKind
workflow_format = record { line_tests = workflow_line_tests; end_tests = workflow_end_tests }

-- ---- the whole file

-- the positions that the lines between the second and the last state
abbrev pub positions_stated : List Row → List Position
positions_stated [] = []
positions_stated (header ∷ []) = []
positions_stated (header ∷ counted ∷ rows) = map (position_of (workflow_version header)) (take (length rows - 1) rows)

-- every line passes, and the positions are those stated
pub record ReadsWorkflow (bytes : List ℕ) (positions : List Position) : Type 0 where
  pub form : IsWellFormed workflow_format (rows_of_bytes Commented bytes) (past_of_bytes bytes)
  pub stated : positions ≡ positions_stated (rows_of_bytes Commented bytes)

abbrev pub RefusesWorkflow : List ℕ → Refusal WorkflowKind → Type 0
RefusesWorkflow bytes refusal = Refuses workflow_format (rows_of_bytes Commented bytes) (past_of_bytes bytes) refusal

-- an answer that is no workflow: a refusal of the file, or memory ran out
abbrev pub IsWorkflowRefusal : List ℕ → Refusal WorkflowKind → Type 0
IsWorkflowRefusal bytes refusals.NoMemory = Unit {0}
IsWorkflowRefusal bytes (refusals.Format f) = RefusesWorkflow bytes (refusals.Format f)
IsWorkflowRefusal bytes (refusals.Limit l) = RefusesWorkflow bytes (refusals.Limit l)
