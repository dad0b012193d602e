-- Graph files of version 2, in which an item may have any number of readers: what a file reads as, and what it is refused with. They are this
-- project's own format. The lines of tasks are those of version 1, in `graph_files`.
use Rattle.std.specs.Prelude.{◌≡◌, ◌==◌, ℕ, ◌+◌, Bool, true, false, ◌&&◌, not, nat_lt, nat_le, is_some, unwrap_or, Option, Some, None}
use Rattle.std.specs.Prelude.{List, [], ◌∷◌, length, map, take, drop, codes, ◌⊎◌}
use Rattle.std.specs.List.{sum_by, list_all}
use Rattle.limits.specs.Limits.{most_positions, most_size, most_total, most_uses}
use Rattle.limits.specs.declared.name.LimitName.TheVariants as limits
use Rattle.lists.specs.Numbers.{Each, IsFirstWithout}
use Rattle.mp_text.specs.declared.layout.Layout.TheVariants.{Commented}
use Rattle.mp_text.specs.declared.refusals.Refusal.{Refusal}
use Rattle.mp_text.specs.declared.refusals.Refusal.TheVariants as refusals
use Rattle.mp_text.specs.Text.{Row, numbers_of}
use Rattle.mp_text.specs.Ahead.{rows_of_bytes, past_of_bytes}
use Rattle.mp_text.specs.Grammar.{Test, test, Format, IsWellFormed, Refuses, fault, fault_at}
use Rattle.file_frame.specs.declared.version.Version.{Version}
use Rattle.file_frame.specs.declared.version.Version.TheVariants.{Two}
use Rattle.file_frame.specs.Words.{version_of}
use Rattle.file_frame.specs.Frame.{stated_on, count_tests, end_tests, first_then, lines_then, end_then_none, has_first, line_stating}
use Rattle.mp_system.specs.System.{is_named}
use Rattle.mp_system.specs.Given.{end_given}
use Rattle.graphs.specs.Graph.{CanBeOrdered}
use Rattle.shared_systems.specs.Shared.{SharedTaskSystem, SharedItem, HasOwnShare}
use Rattle.shared_systems.specs.Bounds.{shared_size, reader_count, use_arcs}
use Rattle.shared_systems.specs.Judged.{IsOrderedShared}
use Rattle.graph_files.specs.declared.kind.GraphKind.{GraphKind}
use Rattle.graph_files.specs.declared.kind.GraphKind.TheVariants as kinds
use Rattle.graph_files.specs.GraphFile.{task_count_tests, tasks_stated, task_tests, task_on_row, extras_of}

-- ---- line 1: `graph 2`

abbrev pub is_two : Option Version → Bool
is_two (Some Two) = true
is_two _ = false

abbrev pub says_second : Row → Bool
says_second row = is_two (version_of (codes "graph") Two row.tokens)

abbrev pub second_header_tests : Row → List (Test GraphKind)
second_header_tests row = test (says_second row) (fault kinds.Header row) ∷ []

-- ---- `items M`

abbrev pub item_count_tests : Row → List (Test GraphKind)
item_count_tests row = count_tests (codes "items") kinds.Section kinds.Number most_positions limits.Positions row

abbrev pub items_stated : Row → ℕ
items_stated row = stated_on (codes "items") row

-- ---- an item line: `size from c1 .. ck`

-- an item of these numbers: its size, its producer, 0 for none, and then its readers, of which there may be none
abbrev pub item_of_numbers : Option (List ℕ) → Option SharedItem
item_of_numbers (Some (size ∷ from ∷ readers)) = Some (record { size = size; from = end_given from; readers = readers })
item_of_numbers _ = None

abbrev pub item_stated : Row → Option SharedItem
item_stated row = item_of_numbers (numbers_of row.tokens)

abbrev pub item_on_row : Row → SharedItem
item_on_row row = unwrap_or (item_stated row) (record { size = 0; from = None; readers = [] })

-- the producer is one of so many tasks, or there is none
abbrev pub is_producer : ℕ → Option ℕ → Bool
is_producer n None = true
is_producer n (Some u) = nat_le u n

-- a reader is one of so many tasks, and not the producer
abbrev pub is_reader : ℕ → Option ℕ → ℕ → Bool
is_reader n from c = nat_le 1 c && nat_le c n && not (is_named from c)

-- each number is greater than the one before it, the first than c
abbrev pub rise_from : ℕ → List ℕ → Bool
rise_from c [] = true
rise_from c (d ∷ ds) = nat_lt c d && rise_from d ds

abbrev pub are_rising : List ℕ → Bool
are_rising [] = true
are_rising (c ∷ cs) = rise_from c cs

-- producer and readers of an item, in a system of so many tasks
abbrev pub has_ends : ℕ → SharedItem → Bool
has_ends n x = is_producer n x.from && (list_all (is_reader n x.from) x.readers && are_rising x.readers)

-- with the number of tasks; the sum of all extras and of the sizes of the item lines before; and the number of their readers together
abbrev pub item_tests : ℕ → ℕ → ℕ → Row → List (Test GraphKind)
item_tests n total uses row =
    test (is_some (item_stated row)) (fault kinds.Number row)
    ∷ test (has_ends n (item_on_row row)) (fault kinds.Item row)
    ∷ test (nat_le (item_on_row row).size most_size) (refusals.Limit limits.Size)
    ∷ test (nat_le (total + (item_on_row row).size) most_total) (refusals.Limit limits.Total)
    ∷ test (nat_le (uses + length (item_on_row row).readers) most_uses) (refusals.Limit limits.Uses)
    ∷ []

abbrev pub item_sizes_of : List Row → ℕ
item_sizes_of rows = sum_by (λ row. shared_size (item_on_row row)) rows

abbrev pub uses_of : List Row → ℕ
uses_of rows = sum_by (λ row. reader_count (item_on_row row)) rows

-- ---- all lines

-- the lines after the tasks of a system of so many, whose extras sum to the total
abbrev pub item_part_tests : ℕ → ℕ → List Row → Row → List (Test GraphKind)
item_part_tests n total =
    first_then item_count_tests (λ counted.
    lines_then (items_stated counted) (λ before row. item_tests n (total + item_sizes_of before) (uses_of before) row) (λ items.
    end_then_none kinds.Section kinds.Section))

-- the lines after the second
abbrev pub second_body_tests : ℕ → List Row → Row → List (Test GraphKind)
second_body_tests n = lines_then n (λ before row. task_tests (extras_of before) row) (λ tasks. item_part_tests n (extras_of tasks))

abbrev pub second_line_tests : List Row → Row → List (Test GraphKind)
second_line_tests =
    first_then second_header_tests (λ header.
    first_then task_count_tests (λ counted.
    second_body_tests (tasks_stated counted)))

-- whether no line is missing, after the tasks
abbrev pub are_items_complete : List Row → Bool
are_items_complete = has_first (λ counted rows. length rows == items_stated counted + 1)

abbrev pub is_second_complete : List Row → Bool
is_second_complete = has_first (λ header. has_first (λ counted rows. are_items_complete (drop (tasks_stated counted) rows)))

abbrev pub second_end_tests : List Row → ℕ → List (Test GraphKind)
second_end_tests rows past = end_tests (is_second_complete rows) kinds.NoEnd past

abbrev pub second_format : Format GraphKind
second_format = record { line_tests = second_line_tests; end_tests = second_end_tests }

-- ---- what the lines state

-- the item lines among the lines after the tasks
abbrev pub item_rows : List Row → List Row
item_rows [] = []
item_rows (counted ∷ rows) = take (items_stated counted) rows

abbrev pub system_stated : List Row → SharedTaskSystem
system_stated [] = record { tasks = []; items = [] }
system_stated (header ∷ []) = record { tasks = []; items = [] }
system_stated (header ∷ counted ∷ rows) = record {
  tasks = map task_on_row (take (tasks_stated counted) rows);
  items = map item_on_row (item_rows (drop (tasks_stated counted) rows));
}

-- ---- the whole file

-- every line passes
abbrev pub HasSecondForm : List ℕ → Type 0
HasSecondForm bytes = IsWellFormed second_format (rows_of_bytes Commented bytes) (past_of_bytes bytes)

-- the system that the lines state
abbrev pub system_stated_by : List ℕ → SharedTaskSystem
system_stated_by bytes = system_stated (rows_of_bytes Commented bytes)

-- every line passes, all tasks can be ordered, all shares fit, and the system is that stated
pub record ReadsItems (bytes : List ℕ) (system : SharedTaskSystem) : Type 0 where
  pub form : HasSecondForm bytes
  pub stated : system ≡ system_stated_by bytes
  pub ordered : IsOrderedShared system
  pub shares : Each (length system.tasks) (HasOwnShare system)

-- every line passes, and the task is the lowest that can't be ordered
pub record RefusesItemCycle (bytes : List ℕ) (refusal : Refusal GraphKind) : Type 0 where
  pub form : HasSecondForm bytes
  pub task : ℕ
  pub first : let system = system_stated_by bytes in IsFirstWithout (length system.tasks) (CanBeOrdered (use_arcs system.items)) task
  pub refusal_is : refusal ≡ fault_at (line_stating (rows_of_bytes Commented bytes) task) kinds.Cycle

-- and if there is none, the task is the lowest whose share does not fit
pub record RefusesItemShare (bytes : List ℕ) (refusal : Refusal GraphKind) : Type 0 where
  pub form : HasSecondForm bytes
  pub ordered : IsOrderedShared (system_stated_by bytes)
  pub task : ℕ
  pub first : let system = system_stated_by bytes in IsFirstWithout (length system.tasks) (HasOwnShare system) task
  pub refusal_is : refusal ≡ fault_at (line_stating (rows_of_bytes Commented bytes) task) kinds.Share

abbrev pub RefusesItems : List ℕ → Refusal GraphKind → Type 0
RefusesItems bytes refusal =
    Refuses second_format (rows_of_bytes Commented bytes) (past_of_bytes bytes) refusal
    ⊎ (RefusesItemCycle bytes refusal ⊎ RefusesItemShare bytes refusal)

-- an answer that is no system: a refusal of the file, or memory ran out
abbrev pub IsItemsRefusal : List ℕ → Refusal GraphKind → Type 0
IsItemsRefusal bytes refusals.NoMemory = Unit {0}
IsItemsRefusal bytes (refusals.Format f) = RefusesItems bytes (refusals.Format f)
IsItemsRefusal bytes (refusals.Limit l) = RefusesItems bytes (refusals.Limit l)
