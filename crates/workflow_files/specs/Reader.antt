-- No public clause names this.
-- What the reader of workflow files does with a line, from what it keeps of the lines before. The format itself stands in
-- WorkflowFile.antt.
use Rattle.std.specs.Prelude.{◌≡◌, ℕ, true, false, if◌then◌else◌, Option, Some, None, List, [], ◌∷◌, ◌++◌, length, map, Result, Ok, Err}
use Rattle.std.specs.List.{sum_by, list_any}
use Rattle.mp_text.specs.declared.refusals.Refusal.{Refusal}
use Rattle.mp_text.specs.declared.refusals.Refusal.TheVariants as refusals
use Rattle.file_frame.specs.declared.version.Version.{Version}
use Rattle.file_frame.specs.declared.version.Version.TheVariants.{One}
use Rattle.mp_text.specs.Text.{Row}
use Rattle.mp_text.specs.Grammar.{fault, fault_at}
use Rattle.mp_text.specs.Reading.{tested, ◌>>=◌}
use Rattle.sp_terms.specs.declared.builder.PushRefusal.{PushRefusal}
use Rattle.sp_terms.specs.declared.builder.PushRefusal.TheVariants as pushes
use Rattle.workflow_files.specs.declared.kind.WorkflowKind.{WorkflowKind}
use Rattle.workflow_files.specs.declared.kind.WorkflowKind.TheVariants as kinds
use Rattle.workflow_files.specs.declared.stage.Stage.{Stage}
use Rattle.workflow_files.specs.declared.stage.Stage.TheVariants as stages
use Rattle.sp_terms.specs.declared.position.Position.{Position}
use Rattle.workflow_files.specs.declared.word.Word.{Word}
use Rattle.sp_terms.specs.Values.{stack_of, added_tasks}
use Rattle.sp_terms.specs.Builder.{refusal_of}
use Rattle.workflow_files.specs.WorkflowFile.{workflow_header_tests, workflow_version, workflow_count_tests, workflow_count, position_from}
use Rattle.workflow_files.specs.WorkflowFile.{stated_or, stated_tests, position_of, form_tests, workflow_last_tests, begins_end}

-- what the reader keeps: what comes next, the version, the stated number of tasks, and the positions
pub record ReaderState : Type 0 where
  pub stage : Stage
  pub version : Version
  pub count : ℕ
  pub positions : List Position

abbrev pub start : ReaderState
start = record { stage = stages.Header; version = One; count = 0; positions = [] }

-- the refusal of a line whose position is not taken
abbrev pub refusal_at : ℕ → PushRefusal → Refusal WorkflowKind
refusal_at line pushes.Short = fault_at line kinds.StackShort
refusal_at line (pushes.Limit name) = refusals.Limit name
refusal_at line pushes.Share = fault_at line kinds.Share
refusal_at line pushes.NoMemory = refusals.NoMemory

-- the reader with one position more, unless it is refused
abbrev pub pushed_or : Option PushRefusal → ℕ → ReaderState → Result ReaderState (Refusal WorkflowKind)
pushed_or None line next = Ok next
pushed_or (Some refusal) line next = Err (refusal_at line refusal)

-- a position is taken, or refused
abbrev pub pushed : ReaderState → ℕ → Position → Result ReaderState (Refusal WorkflowKind)
pushed s line p = pushed_or (refusal_of s.positions p) line (record s { positions = s.positions ++ p ∷ [] })

-- a position line: its word, and the numbers after it
abbrev pub position_step : ReaderState → ℕ → Word → Option (List ℕ) → Result ReaderState (Refusal WorkflowKind)
position_step s line word numbers =
    let height = length (stack_of s.positions) in
    let tasks = sum_by added_tasks s.positions in
    let stated = position_from s.version (Some word) numbers in
    tested (stated_tests s.count height tasks stated line) (stated_or stated) >>= pushed s line

-- a line with no word of a position: the end, or else it is refused for its word
abbrev pub end_step : ReaderState → Row → Result ReaderState (Refusal WorkflowKind)
end_step s row =
    let height = length (stack_of s.positions) in
    let tasks = sum_by added_tasks s.positions in
    if begins_end row
    then tested (workflow_last_tests s.count height tasks row) (record s { stage = stages.Ended })
    else Err (fault kinds.Word row)

-- a line where positions are read: one more of them, or the end
abbrev pub body_step : ReaderState → Row → Result ReaderState (Refusal WorkflowKind)
body_step s row =
    let height = length (stack_of s.positions) in
    let tasks = sum_by added_tasks s.positions in
    if begins_end row
    then tested (workflow_last_tests s.count height tasks row) (record s { stage = stages.Ended })
    else tested (form_tests s.version s.count height tasks row) (position_of s.version row) >>= pushed s row.number

-- a line, by what is expected
abbrev pub staged_step : Stage → ReaderState → Row → Result ReaderState (Refusal WorkflowKind)
staged_step stages.Header s row = tested (workflow_header_tests row) (record s { stage = stages.Count; version = workflow_version row })
staged_step stages.Count s row = tested (workflow_count_tests row) (record s { stage = stages.Positions; count = workflow_count row })
staged_step stages.Positions s row = body_step s row
staged_step stages.Ended s row = Err (fault kinds.Word row)

unfoldable pub workflow_step : ReaderState → Row → Result ReaderState (Refusal WorkflowKind)
workflow_step s row = staged_step s.stage s row

-- the end, by what is expected
abbrev pub staged_end : Stage → ReaderState → ℕ → Result ReaderState (Refusal WorkflowKind)
staged_end stages.Header s past = Err (fault_at past kinds.NoEnd)
staged_end stages.Count s past = Err (fault_at past kinds.NoEnd)
staged_end stages.Positions s past = Err (fault_at past kinds.NoEnd)
staged_end stages.Ended s past = Ok s

unfoldable pub workflow_end : ReaderState → ℕ → Result ReaderState (Refusal WorkflowKind)
workflow_end s past = staged_end s.stage s past

-- the reader took a header, a count and these position lines
pub record TookPositions (s : ReaderState) (header counted : Row) (rows : List Row) : Type 0 where
  pub version : s.version ≡ workflow_version header
  pub count : s.count ≡ workflow_count counted
  pub positions : s.positions ≡ map (position_of (workflow_version header)) rows
  pub unended : list_any begins_end rows ≡ false

-- the reader took a header
pub record TookHeader (s : ReaderState) (rows : List Row) : Type 0 where
  pub header : Row
  pub rows_are : rows ≡ header ∷ []
  pub version : s.version ≡ workflow_version header
  pub fresh : s.positions ≡ []

-- the reader took a header, a count, and some position lines
pub record TookSome (s : ReaderState) (rows : List Row) : Type 0 where
  pub header : Row
  pub counted : Row
  pub position_rows : List Row
  pub rows_are : rows ≡ header ∷ counted ∷ position_rows
  pub taken : TookPositions s header counted position_rows

-- the reader took all lines, and one term is left
pub record TookAll (s : ReaderState) (rows : List Row) : Type 0 where
  pub header : Row
  pub counted : Row
  pub position_rows : List Row
  pub last : Row
  pub rows_are : rows ≡ header ∷ counted ∷ (position_rows ++ last ∷ [])
  pub taken : TookPositions s header counted position_rows
  pub ended : begins_end last ≡ true
  pub one : length (stack_of s.positions) ≡ 1

-- the reader stands after these lines
abbrev pub staged_took : Stage → ReaderState → List Row → Type 0
staged_took stages.Header s rows = (rows ≡ []) × (s.positions ≡ [])
staged_took stages.Count s rows = TookHeader s rows
staged_took stages.Positions s rows = TookSome s rows
staged_took stages.Ended s rows = TookAll s rows

abbrev pub took : ReaderState → List Row → Type 0
took s rows = staged_took s.stage s rows
