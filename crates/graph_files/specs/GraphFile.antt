-- Graph files: what a file reads as, and what it is refused with. They are this project's own format.
use Rattle.std.specs.Prelude.{◌≡◌, ◌==◌, ℕ, ◌+◌, Bool, ◌&&◌, ◌||◌, not, nat_le, is_some, unwrap_or, Option, Some}
use Rattle.std.specs.Prelude.{None, List, [], ◌∷◌, length, map, take, drop, codes, ◌⊎◌}
use Rattle.std.specs.List.{sum_by}
use Rattle.limits.specs.Limits.{most_tasks, most_arcs, most_size, most_time, most_total}
use Rattle.limits.specs.declared.name.LimitName.TheVariants as limits
use Rattle.mp_text.specs.declared.layout.Layout.TheVariants.{Commented}
use Rattle.mp_text.specs.declared.refusals.Refusal.{Refusal}
use Rattle.mp_text.specs.declared.refusals.Refusal.TheVariants as refusals
use Rattle.mp_text.specs.Text.{Row, numbers_of}
use Rattle.file_frame.specs.declared.version.Version.TheVariants.{One}
use Rattle.mp_text.specs.Ahead.{rows_of_bytes, past_of_bytes}
use Rattle.mp_text.specs.Grammar.{Test, test, Format, IsWellFormed, Refuses, fault, fault_at}
use Rattle.mp_system.specs.declared.system.Task.{Task}
use Rattle.mp_system.specs.System.{extra_size}
use Rattle.graphs.specs.declared.arc.Arc.{Arc}
use Rattle.graph_files.specs.declared.fields.ArcFields.{ArcFields}
use Rattle.graph_files.specs.declared.kind.GraphKind.{GraphKind}
use Rattle.graph_files.specs.declared.kind.GraphKind.TheVariants as kinds
use Rattle.lists.specs.Numbers.{IsFirstWithout}
use Rattle.graphs.specs.Graph.{TaskGraph, IsAmong, CanBeOrdered, TaskShareFits, arc_size}
use Rattle.graphs.specs.Judged.{HasFewArcs, IsOrdered}
use Rattle.file_frame.specs.Frame.{header_tests, stated_on, count_tests, end_tests, first_then, lines_then, end_then_none, has_first}
use Rattle.file_frame.specs.Frame.{line_stating}

-- ---- line 1: `graph 1`

abbrev pub graph_header_tests : Row → List (Test GraphKind)
graph_header_tests row = header_tests (codes "graph") One kinds.Header row

-- ---- `tasks N` and `arcs M`

abbrev pub task_count_tests : Row → List (Test GraphKind)
task_count_tests row = count_tests (codes "tasks") kinds.Section kinds.Number most_tasks limits.Tasks row

abbrev pub tasks_stated : Row → ℕ
tasks_stated row = stated_on (codes "tasks") row

abbrev pub arc_count_tests : Row → List (Test GraphKind)
arc_count_tests row = count_tests (codes "arcs") kinds.Section kinds.Number most_arcs limits.Arcs row

abbrev pub arcs_stated : Row → ℕ
arcs_stated row = stated_on (codes "arcs") row

-- ---- a task line: `extra share time`

-- a task of just these numbers
abbrev pub task_of_numbers : Option (List ℕ) → Option Task
task_of_numbers (Some (extra ∷ share ∷ time ∷ [])) = Some (record { extra = extra; share = share; time = time })
task_of_numbers _ = None

abbrev pub task_stated : Row → Option Task
task_stated row = task_of_numbers (numbers_of row.tokens)

abbrev pub task_on_row : Row → Task
task_on_row row = unwrap_or (task_stated row) (record { extra = 0; share = 0; time = 0 })

-- with the sum of all extras of the task lines before
abbrev pub task_tests : ℕ → Row → List (Test GraphKind)
task_tests total row =
    test (is_some (task_stated row) && not ((task_on_row row).time == 0)) (fault kinds.Number row)
    ∷ test (nat_le (task_on_row row).extra most_size) (refusals.Limit limits.Size)
    ∷ test (nat_le (task_on_row row).time most_time) (refusals.Limit limits.Time)
    ∷ test (nat_le (total + (task_on_row row).extra) most_total) (refusals.Limit limits.Total)
    ∷ []

abbrev pub extras_of : List Row → ℕ
extras_of rows = sum_by (λ row. extra_size (task_on_row row)) rows

-- ---- an arc line: `from to size`

abbrev pub arc_from : Option (List ℕ) → Option ArcFields
arc_from (Some (from ∷ to ∷ size ∷ [])) = Some (record { from = from; to = to; size = size })
arc_from _ = None

abbrev pub arc_stated : Row → Option ArcFields
arc_stated row = arc_from (numbers_of row.tokens)

abbrev pub arc_of : Row → Arc
arc_of row =
    let f = unwrap_or (arc_stated row) (record { from = 0; to = 0; size = 0 }) in
    record { from = f.from; to = f.to; size = f.size }

-- ends of an arc of a graph of so many tasks: not the same task
abbrev pub are_ends : ℕ → Arc → Bool
are_ends n arc = nat_le arc.from n && nat_le arc.to n && (not (arc.from == arc.to) || arc.from == 0)

-- with the number of tasks, and the sum of all extras and of the sizes of the arc lines before
abbrev pub arc_tests : ℕ → ℕ → Row → List (Test GraphKind)
arc_tests n total row =
    test (is_some (arc_stated row)) (fault kinds.Number row)
    ∷ test (are_ends n (arc_of row)) (fault kinds.Arc row)
    ∷ test (nat_le (arc_of row).size most_size) (refusals.Limit limits.Size)
    ∷ test (nat_le (total + (arc_of row).size) most_total) (refusals.Limit limits.Total)
    ∷ []

abbrev pub sizes_of : List Row → ℕ
sizes_of rows = sum_by (λ row. arc_size (arc_of row)) rows

-- ---- all lines

-- the lines after the tasks of a graph of so many, whose extras sum to the total
abbrev pub arc_part_tests : ℕ → ℕ → List Row → Row → List (Test GraphKind)
arc_part_tests n total =
    first_then arc_count_tests (λ counted.
    lines_then (arcs_stated counted) (λ before row. arc_tests n (total + sizes_of before) row) (λ arcs.
    end_then_none kinds.Section kinds.Section))

-- the lines after the second
abbrev pub graph_body_tests : ℕ → List Row → Row → List (Test GraphKind)
graph_body_tests n = lines_then n (λ before row. task_tests (extras_of before) row) (λ tasks. arc_part_tests n (extras_of tasks))

abbrev pub graph_line_tests : List Row → Row → List (Test GraphKind)
graph_line_tests =
    first_then graph_header_tests (λ header.
    first_then task_count_tests (λ counted.
    graph_body_tests (tasks_stated counted)))

-- whether no line is missing, after the tasks
abbrev pub are_arcs_complete : List Row → Bool
are_arcs_complete = has_first (λ counted rows. length rows == arcs_stated counted + 1)

abbrev pub is_graph_complete : List Row → Bool
is_graph_complete = has_first (λ header. has_first (λ counted rows. are_arcs_complete (drop (tasks_stated counted) rows)))

abbrev pub graph_end_tests : List Row → ℕ → List (Test GraphKind)
graph_end_tests rows past = end_tests (is_graph_complete rows) kinds.NoEnd past

abbrev pub graph_format : Format GraphKind
graph_format = record { line_tests = graph_line_tests; end_tests = graph_end_tests }

-- ---- what the lines state

-- the arc lines among the lines after the tasks
abbrev pub arc_rows : List Row → List Row
arc_rows [] = []
arc_rows (counted ∷ rows) = take (arcs_stated counted) rows

abbrev pub graph_stated : List Row → TaskGraph
graph_stated [] = record { tasks = []; arcs = [] }
graph_stated (header ∷ []) = record { tasks = []; arcs = [] }
graph_stated (header ∷ counted ∷ rows) =
    record { tasks = map task_on_row (take (tasks_stated counted) rows); arcs = map arc_of (arc_rows (drop (tasks_stated counted) rows)) }

-- ---- the whole file

-- every line passes
abbrev pub HasForm : List ℕ → Type 0
HasForm bytes = IsWellFormed graph_format (rows_of_bytes Commented bytes) (past_of_bytes bytes)

-- the graph that the lines state
abbrev pub stated_by : List ℕ → TaskGraph
stated_by bytes = graph_stated (rows_of_bytes Commented bytes)

-- every line passes, the arcs are few enough, all tasks can be ordered, all shares fit, and the graph is that stated
pub record ReadsGraph (bytes : List ℕ) (graph : TaskGraph) : Type 0 where
  pub form : HasForm bytes
  pub stated : graph ≡ stated_by bytes
  pub few : HasFewArcs graph
  pub ordered : IsOrdered graph
  pub shares : (v : ℕ) → IsAmong (length graph.tasks) v → TaskShareFits graph.tasks graph.arcs v

-- every line passes, and the completed graph has too many arcs
pub record RefusesArcs (bytes : List ℕ) (refusal : Refusal GraphKind) : Type 0 where
  pub form : HasForm bytes
  pub many : HasFewArcs (stated_by bytes) → ⊥
  pub refusal_is : refusal ≡ refusals.Limit limits.Arcs

-- and if not, v is the lowest task that can't be ordered
pub record RefusesCycle (bytes : List ℕ) (refusal : Refusal GraphKind) : Type 0 where
  pub form : HasForm bytes
  pub few : HasFewArcs (stated_by bytes)
  pub task : ℕ
  pub first : IsFirstWithout (length (stated_by bytes).tasks) (CanBeOrdered (stated_by bytes).arcs) task
  pub refusal_is : refusal ≡ fault_at (line_stating (rows_of_bytes Commented bytes) task) kinds.Cycle

-- and if there is none, v is the lowest task whose share does not fit
pub record RefusesShare (bytes : List ℕ) (refusal : Refusal GraphKind) : Type 0 where
  pub form : HasForm bytes
  pub few : HasFewArcs (stated_by bytes)
  pub ordered : IsOrdered (stated_by bytes)
  pub task : ℕ
  pub first : IsFirstWithout (length (stated_by bytes).tasks) (TaskShareFits (stated_by bytes).tasks (stated_by bytes).arcs) task
  pub refusal_is : refusal ≡ fault_at (line_stating (rows_of_bytes Commented bytes) task) kinds.Share

abbrev pub RefusesGraph : List ℕ → Refusal GraphKind → Type 0
RefusesGraph bytes refusal =
    Refuses graph_format (rows_of_bytes Commented bytes) (past_of_bytes bytes) refusal
    ⊎ (RefusesArcs bytes refusal ⊎ (RefusesCycle bytes refusal ⊎ RefusesShare bytes refusal))

-- an answer that is no graph: a refusal of the file, or memory ran out
abbrev pub IsGraphRefusal : List ℕ → Refusal GraphKind → Type 0
IsGraphRefusal bytes refusals.NoMemory = Unit {0}
IsGraphRefusal bytes (refusals.Format f) = RefusesGraph bytes (refusals.Format f)
IsGraphRefusal bytes (refusals.Limit l) = RefusesGraph bytes (refusals.Limit l)
