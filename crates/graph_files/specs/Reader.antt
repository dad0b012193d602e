-- No public clause names this.
-- What the reader of graph files does with a line, from what it keeps of the lines before. The format itself stands in GraphFile.antt.
use Rattle.std.specs.Prelude.{◌≡◌, ℕ, ◌+◌, ◌≤◌, nat_lt, List, [], ◌∷◌, ◌++◌, length, map, if◌then◌else◌, Result, Ok, Err}
use Rattle.limits.specs.Limits.{most_tasks, most_total}
use Rattle.mp_text.specs.declared.refusals.Refusal.{Refusal}
use Rattle.mp_text.specs.Text.{Row}
use Rattle.mp_text.specs.Grammar.{fault, fault_at}
use Rattle.mp_text.specs.Reading.{tested}
use Rattle.mp_system.specs.declared.system.Task.{Task}
use Rattle.graphs.specs.declared.arc.Arc.{Arc}
use Rattle.graph_files.specs.declared.kind.GraphKind.{GraphKind}
use Rattle.graph_files.specs.declared.kind.GraphKind.TheVariants as kinds
use Rattle.graph_files.specs.declared.stage.Stage.{Stage}
use Rattle.graph_files.specs.declared.stage.Stage.TheVariants as stages
use Rattle.graph_files.specs.GraphFile.{graph_header_tests, task_count_tests, tasks_stated, arc_count_tests, arcs_stated, task_tests, task_on_row}
use Rattle.graph_files.specs.GraphFile.{extras_of, arc_tests, arc_of, sizes_of}
use Rattle.file_frame.specs.Frame.{last_tests}

-- what the reader keeps: what comes next, the stated numbers of tasks and of arcs, the tasks with the numbers of their lines, the
-- arcs, and the sum of all extras and sizes
pub record ReaderState : Type 0 where
  pub stage : Stage
  pub count : ℕ
  pub arc_count : ℕ
  pub tasks : List Task
  pub lines : List ℕ
  pub arcs : List Arc
  pub total : ℕ

abbrev pub start : ReaderState
start = record { stage = stages.Header; count = 0; arc_count = 0; tasks = []; lines = []; arcs = []; total = 0 }

-- bounds that the code relies on
pub record IsReaderState (s : ReaderState) : Type 0 where
  pub few : s.count ≤ most_tasks
  pub small : s.total ≤ most_total

abbrev pub with_task : ReaderState → Row → ReaderState
with_task s row =
    record s {
      tasks = s.tasks ++ task_on_row row ∷ [];
      lines = s.lines ++ row.number ∷ [];
      total = s.total + (task_on_row row).extra;
    }

abbrev pub with_arc : ReaderState → Row → ReaderState
with_arc s row = record s { arcs = s.arcs ++ arc_of row ∷ []; total = s.total + (arc_of row).size }

-- a line where tasks are read: one more of them, or the number of arcs after the last
abbrev pub tasks_step : ReaderState → Row → Result ReaderState (Refusal GraphKind)
tasks_step s row =
    if nat_lt (length s.tasks) s.count
    then tested (task_tests s.total row) (with_task s row)
    else tested (arc_count_tests row) (record s { stage = stages.Arcs; arc_count = arcs_stated row })

-- a line where arcs are read: one more of them, or the end after the last
abbrev pub arcs_step : ReaderState → Row → Result ReaderState (Refusal GraphKind)
arcs_step s row =
    if nat_lt (length s.arcs) s.arc_count
    then tested (arc_tests s.count s.total row) (with_arc s row)
    else tested (last_tests kinds.Section row) (record s { stage = stages.Ended })

abbrev pub staged_step : Stage → ReaderState → Row → Result ReaderState (Refusal GraphKind)
staged_step stages.Header s row = tested (graph_header_tests row) (record s { stage = stages.TaskCount })
staged_step stages.TaskCount s row = tested (task_count_tests row) (record s { stage = stages.Tasks; count = tasks_stated row })
staged_step stages.Tasks s row = tasks_step s row
staged_step stages.Arcs s row = arcs_step s row
staged_step stages.Ended s row = Err (fault kinds.Section row)

unfoldable pub graph_step : ReaderState → Row → Result ReaderState (Refusal GraphKind)
graph_step s row = staged_step s.stage s row

abbrev pub staged_end : Stage → ReaderState → ℕ → Result ReaderState (Refusal GraphKind)
staged_end stages.Header s past = Err (fault_at past kinds.NoEnd)
staged_end stages.TaskCount s past = Err (fault_at past kinds.NoEnd)
staged_end stages.Tasks s past = Err (fault_at past kinds.NoEnd)
staged_end stages.Arcs s past = Err (fault_at past kinds.NoEnd)
staged_end stages.Ended s past = Ok s

unfoldable pub graph_end : ReaderState → ℕ → Result ReaderState (Refusal GraphKind)
graph_end s past = staged_end s.stage s past

-- the reader has taken nothing of the tasks yet
pub record IsFresh (s : ReaderState) : Type 0 where
  pub tasks : s.tasks ≡ []
  pub lines : s.lines ≡ []
  pub arcs : s.arcs ≡ []
  pub total : s.total ≡ 0

-- the reader took the line with the number of tasks, and these task lines
pub record TookTasks (s : ReaderState) (counted : Row) (rows : List Row) : Type 0 where
  pub count : s.count ≡ tasks_stated counted
  pub tasks : s.tasks ≡ map task_on_row rows
  pub lines : s.lines ≡ map (λ row. row.number) rows
  pub within : length rows ≤ tasks_stated counted

-- and, after as many task lines as stated, the line with the number of arcs, and these arc lines
pub record TookArcs (s : ReaderState) (counted : Row) (rows : List Row) (arcs_counted : Row) (arc_rows : List Row) : Type 0 where
  pub tasks : TookTasks s counted rows
  pub whole : length rows ≡ tasks_stated counted
  pub arc_count : s.arc_count ≡ arcs_stated arcs_counted
  pub arcs : s.arcs ≡ map arc_of arc_rows
  pub total : s.total ≡ extras_of rows + sizes_of arc_rows
  pub few : length arc_rows ≤ arcs_stated arcs_counted

pub record TookHeader (s : ReaderState) (rows : List Row) : Type 0 where
  pub header : Row
  pub rows_are : rows ≡ header ∷ []
  pub fresh : IsFresh s

pub record TookSomeTasks (s : ReaderState) (rows : List Row) : Type 0 where
  pub header : Row
  pub counted : Row
  pub task_rows : List Row
  pub rows_are : rows ≡ header ∷ counted ∷ task_rows
  pub taken : TookTasks s counted task_rows
  pub total : s.total ≡ extras_of task_rows
  pub none : s.arcs ≡ []

pub record TookSomeArcs (s : ReaderState) (rows : List Row) : Type 0 where
  pub header : Row
  pub counted : Row
  pub task_rows : List Row
  pub arcs_counted : Row
  pub arc_rows : List Row
  pub rows_are : rows ≡ header ∷ counted ∷ (task_rows ++ arcs_counted ∷ arc_rows)
  pub taken : TookArcs s counted task_rows arcs_counted arc_rows

pub record TookAll (s : ReaderState) (rows : List Row) : Type 0 where
  pub header : Row
  pub counted : Row
  pub task_rows : List Row
  pub arcs_counted : Row
  pub arc_rows : List Row
  pub last : Row
  pub rows_are : rows ≡ header ∷ counted ∷ (task_rows ++ arcs_counted ∷ (arc_rows ++ last ∷ []))
  pub taken : TookArcs s counted task_rows arcs_counted arc_rows
  pub complete : length arc_rows ≡ arcs_stated arcs_counted

-- the reader stands after these lines
abbrev pub staged_took : Stage → ReaderState → List Row → Type 0
staged_took stages.Header s rows = (rows ≡ []) × IsFresh s
staged_took stages.TaskCount s rows = TookHeader s rows
staged_took stages.Tasks s rows = TookSomeTasks s rows
staged_took stages.Arcs s rows = TookSomeArcs s rows
staged_took stages.Ended s rows = TookAll s rows

abbrev pub took : ReaderState → List Row → Type 0
took s rows = staged_took s.stage s rows
