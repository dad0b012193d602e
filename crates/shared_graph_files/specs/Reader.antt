-- No public clause names this.
-- What the reader of graph files of version 2 does with a line, from what it keeps of the lines before. The format itself stands in
-- SharedGraphFile.antt.
use Rattle.std.specs.Prelude.{◌≡◌, ◌==◌, ℕ, ◌+◌, ◌≤◌, Bool, true, not, ◌&&◌, nat_lt, nat_le, List, [], ◌∷◌, ◌++◌, length, map, if◌then◌else◌}
use Rattle.std.specs.Prelude.{Result, Ok, Err, Some}
use Rattle.std.specs.Option.{option_map}
use Rattle.std.specs.List.{sum_by}
use Rattle.limits.specs.Limits.{most_tasks, most_total}
use Rattle.mp_text.specs.declared.refusals.Refusal.{Refusal}
use Rattle.mp_text.specs.Text.{Row, numbers_of}
use Rattle.mp_text.specs.Grammar.{fault, fault_at}
use Rattle.mp_text.specs.Reading.{tested}
use Rattle.file_frame.specs.Frame.{last_tests}
use Rattle.mp_system.specs.declared.system.Task.{Task}
use Rattle.mp_system.specs.Given.{end_given}
use Rattle.shared_systems.specs.Shared.{SharedItem}
use Rattle.shared_systems.specs.Bounds.{reader_count}
use Rattle.shared_systems.specs.Growing.{ItemsSoFar, no_items}
use Rattle.graph_files.specs.declared.kind.GraphKind.{GraphKind}
use Rattle.graph_files.specs.declared.kind.GraphKind.TheVariants as kinds
use Rattle.graph_files.specs.GraphFile.{task_count_tests, tasks_stated, task_tests, task_on_row, extras_of}
use Rattle.shared_graph_files.specs.declared.stage.Stage.{Stage}
use Rattle.shared_graph_files.specs.declared.stage.Stage.TheVariants as stages
use Rattle.shared_graph_files.specs.SharedGraphFile.{second_header_tests, item_count_tests, items_stated, item_tests, item_on_row, item_sizes_of}
use Rattle.shared_graph_files.specs.SharedGraphFile.{has_ends}

-- ---- the readers of an item line

-- in a system of so many tasks, a reader is greater than the one before it, and is a task other than the producer
abbrev pub is_next : ℕ → ℕ → ℕ → ℕ → Bool
is_next n from last c = nat_lt last c && nat_le c n && not (c == from)

-- so is each of them
abbrev pub are_fit : ℕ → ℕ → ℕ → List ℕ → Bool
are_fit n from last [] = true
are_fit n from last (c ∷ cs) = is_next n from last c && are_fit n from c cs

-- the words are numbers; whether they are fit as readers; and if they are, they wait
pub record AreTaken (n from : ℕ) (words : List (List ℕ)) (old new : ItemsSoFar) (fit : Bool) : Type 0 where
  pub readers : List ℕ
  pub numbers : numbers_of words ≡ Some readers
  pub fits : fit ≡ are_fit n from 0 readers
  pub taken : fit ≡ true → new ≡ record { items = old.items; waiting = old.waiting ++ readers }

-- the same with more words to come, of readers that are greater than `last`
pub record IsTaking (n from : ℕ) (words left : List (List ℕ)) (fit : Bool) (last : ℕ) (old new : ItemsSoFar) : Type 0 where
  pub read : List ℕ
  pub numbers : numbers_of words ≡ option_map (λ rest. read ++ rest) (numbers_of left)
  pub fits : (rest : List ℕ) → are_fit n from 0 (read ++ rest) ≡ (fit && are_fit n from last rest)
  pub taken : fit ≡ true → new ≡ record { items = old.items; waiting = old.waiting ++ read }

-- the words are the numbers of an item; whether its producer and its readers are fit; and if they are, its readers wait
pub record IsTaken (n : ℕ) (words : List (List ℕ)) (old new : ItemsSoFar) (size from : ℕ) (fit : Bool) : Type 0 where
  pub readers : List ℕ
  pub numbers : numbers_of words ≡ Some (size ∷ from ∷ readers)
  pub fits : fit ≡ has_ends n (record { size = size; from = end_given from; readers = readers })
  pub taken : fit ≡ true → new ≡ record { items = old.items; waiting = old.waiting ++ readers }

-- how many readers there are, with those that wait
abbrev pub uses_so_far : ItemsSoFar → ℕ
uses_so_far made = sum_by reader_count made.items + length made.waiting

-- an item more, which takes the readers that wait too: there are none where an item line begins
abbrev pub with_item_on : ItemsSoFar → SharedItem → ItemsSoFar
with_item_on made x =
    record { items = made.items ++ record { size = x.size; from = x.from; readers = made.waiting ++ x.readers } ∷ []; waiting = [] }

-- ---- lines

-- what the reader keeps: what comes next, the stated numbers of tasks and of items, the tasks, the items, and the sum of all extras and sizes
pub record ReaderState : Type 0 where
  pub stage : Stage
  pub count : ℕ
  pub item_count : ℕ
  pub tasks : List Task
  pub items : ItemsSoFar
  pub total : ℕ

abbrev pub start : ReaderState
start = record { stage = stages.Header; count = 0; item_count = 0; tasks = []; items = no_items; total = 0 }

-- bounds that the code relies on
pub record IsReaderState (s : ReaderState) : Type 0 where
  pub few : s.count ≤ most_tasks
  pub small : s.total ≤ most_total

abbrev pub with_task : ReaderState → Row → ReaderState
with_task s row = record s { tasks = s.tasks ++ task_on_row row ∷ []; total = s.total + (task_on_row row).extra }

abbrev pub with_item_line : ReaderState → Row → ReaderState
with_item_line s row = record s { items = with_item_on s.items (item_on_row row); total = s.total + (item_on_row row).size }

-- a line where tasks are read: one more of them, or the number of items after the last
abbrev pub tasks_step : ReaderState → Row → Result ReaderState (Refusal GraphKind)
tasks_step s row =
    if nat_lt (length s.tasks) s.count
    then tested (task_tests s.total row) (with_task s row)
    else tested (item_count_tests row) (record s { stage = stages.Items; item_count = items_stated row })

-- a line where items are read: one more of them, or the end after the last
abbrev pub items_step : ReaderState → Row → Result ReaderState (Refusal GraphKind)
items_step s row =
    if nat_lt (length s.items.items) s.item_count
    then tested (item_tests s.count s.total (uses_so_far s.items) row) (with_item_line s row)
    else tested (last_tests kinds.Section row) (record s { stage = stages.Ended })

abbrev pub staged_step : Stage → ReaderState → Row → Result ReaderState (Refusal GraphKind)
staged_step stages.Header s row = tested (second_header_tests row) (record s { stage = stages.TaskCount })
staged_step stages.TaskCount s row = tested (task_count_tests row) (record s { stage = stages.Tasks; count = tasks_stated row })
staged_step stages.Tasks s row = tasks_step s row
staged_step stages.Items s row = items_step s row
staged_step stages.Ended s row = Err (fault kinds.Section row)

unfoldable pub second_step : ReaderState → Row → Result ReaderState (Refusal GraphKind)
second_step s row = staged_step s.stage s row

abbrev pub staged_end : Stage → ReaderState → ℕ → Result ReaderState (Refusal GraphKind)
staged_end stages.Header s past = Err (fault_at past kinds.NoEnd)
staged_end stages.TaskCount s past = Err (fault_at past kinds.NoEnd)
staged_end stages.Tasks s past = Err (fault_at past kinds.NoEnd)
staged_end stages.Items s past = Err (fault_at past kinds.NoEnd)
staged_end stages.Ended s past = Ok s

unfoldable pub second_end : ReaderState → ℕ → Result ReaderState (Refusal GraphKind)
second_end s past = staged_end s.stage s past

-- ---- where the reader stands

-- the reader has taken nothing of the tasks yet
pub record IsFresh (s : ReaderState) : Type 0 where
  pub tasks : s.tasks ≡ []
  pub items : s.items ≡ no_items
  pub total : s.total ≡ 0

-- the reader took the line with the number of tasks, and these task lines
pub record TookTasks (s : ReaderState) (counted : Row) (rows : List Row) : Type 0 where
  pub count : s.count ≡ tasks_stated counted
  pub tasks : s.tasks ≡ map task_on_row rows
  pub within : length rows ≤ tasks_stated counted

-- and, after as many task lines as stated, the line with the number of items, and these item lines
pub record TookItems (s : ReaderState) (counted : Row) (rows : List Row) (items_counted : Row) (item_rows : List Row) : Type 0 where
  pub tasks : TookTasks s counted rows
  pub whole : length rows ≡ tasks_stated counted
  pub item_count : s.item_count ≡ items_stated items_counted
  pub items : s.items ≡ record { items = map item_on_row item_rows; waiting = [] }
  pub total : s.total ≡ extras_of rows + item_sizes_of item_rows
  pub few : length item_rows ≤ items_stated items_counted

pub record TookHeader (s : ReaderState) (rows : List Row) : Type 0 where
  pub header : Row
  pub rows_are : rows ≡ header ∷ []
  pub fresh : IsFresh s

pub record TookSomeTasks (s : ReaderState) (rows : List Row) : Type 0 where
  pub header : Row
  pub counted : Row
  pub task_rows : List Row
  pub rows_are : rows ≡ header ∷ counted ∷ task_rows
  pub taken : TookTasks s counted task_rows
  pub total : s.total ≡ extras_of task_rows
  pub none : s.items ≡ no_items

pub record TookSomeItems (s : ReaderState) (rows : List Row) : Type 0 where
  pub header : Row
  pub counted : Row
  pub task_rows : List Row
  pub items_counted : Row
  pub item_rows : List Row
  pub rows_are : rows ≡ header ∷ counted ∷ (task_rows ++ items_counted ∷ item_rows)
  pub taken : TookItems s counted task_rows items_counted item_rows

pub record TookAll (s : ReaderState) (rows : List Row) : Type 0 where
  pub header : Row
  pub counted : Row
  pub task_rows : List Row
  pub items_counted : Row
  pub item_rows : List Row
  pub last : Row
  pub rows_are : rows ≡ header ∷ counted ∷ (task_rows ++ items_counted ∷ (item_rows ++ last ∷ []))
  pub taken : TookItems s counted task_rows items_counted item_rows
  pub complete : length item_rows ≡ items_stated items_counted

-- the reader stands after these lines
abbrev pub staged_took : Stage → ReaderState → List Row → Type 0
staged_took stages.Header s rows = (rows ≡ []) × IsFresh s
staged_took stages.TaskCount s rows = TookHeader s rows
staged_took stages.Tasks s rows = TookSomeTasks s rows
staged_took stages.Items s rows = TookSomeItems s rows
staged_took stages.Ended s rows = TookAll s rows

abbrev pub took : ReaderState → List Row → Type 0
took s rows = staged_took s.stage s rows
