-- What the reader of graph files of version 2 does with a line, and with the end, is what the tests of the format say.
use Rattle.std.specs.Prelude.{◌≡◌, ◌==◌, ℕ, ◌+◌, ◌<◌, Bool, true, false, nat_lt, List, ◌∷◌, ◌++◌, [], length, map, drop, refl, Err}
use Rattle.std.proofs.Common.{sym, ap, subst, ◌∙◌, arith, eq-eqb, add-zero}
use Rattle.std.proofs.lemmas.List.{map_push, length-map, length_push, length-append, take_at, drop_at, drop_all, append_assoc}
use Rattle.std.proofs.lemmas.List.Sums.{sum_by_push}
use Rattle.std.proofs.lemmas.Bool.{ltb-true, ltb-false, le-ltb, ne_eqb}
use Rattle.lists.proofs.Lists.{sum_by-map}
use Rattle.mp_text.specs.Text.{Row}
use Rattle.mp_text.specs.Grammar.{Test, ArePassed, fault}
use Rattle.mp_text.specs.Reading.{Follows, tested}
use Rattle.mp_text.specs.ReadingLaws.{tested-follows}
use Rattle.mp_system.specs.System.{extra_size}
use Rattle.std.specs.List.{sum_by}
use Rattle.shared_systems.specs.Shared.{SharedItem}
use Rattle.shared_systems.specs.Bounds.{shared_size, reader_count}
use Rattle.shared_systems.specs.Growing.{ItemsSoFar, no_items}
use Rattle.graph_files.specs.GraphFile.{task_count_tests, tasks_stated, task_tests, task_on_row, extras_of}
use Rattle.shared_graph_files.specs.SharedGraphFile.{second_format, second_line_tests, second_end_tests, second_header_tests, item_count_tests}
use Rattle.shared_graph_files.specs.SharedGraphFile.{items_stated, item_tests, item_on_row, item_sizes_of, uses_of, item_part_tests}
use Rattle.shared_graph_files.specs.SharedGraphFile.{second_body_tests, is_second_complete}
use Rattle.shared_graph_files.specs.Reader.{ReaderState, IsFresh, TookTasks, TookItems, staged_step, staged_end, staged_took}
use Rattle.shared_graph_files.specs.Reader.{tasks_step, items_step, with_task, with_item_line, uses_so_far, second_step, second_end, took}
use Rattle.graph_files.specs.declared.kind.GraphKind.{GraphKind}
use Rattle.graph_files.specs.declared.kind.GraphKind.TheVariants as kinds
use Rattle.shared_graph_files.specs.declared.stage.Stage.{Stage}
use Rattle.shared_graph_files.specs.declared.stage.Stage.TheVariants as stages
use Rattle.file_frame.specs.Frame.{last_tests}

-- ---- lines

IsNext : (rows : List Row) (next : ReaderState) → Type 0
IsNext rows next = took next rows × (second_format ≡ second_format)

at_header : (s : ReaderState) (row : Row) → IsFresh s →
    Follows (second_header_tests row) (IsNext (row ∷ [])) (tested (second_header_tests row) (record s { stage = stages.TaskCount }))
unfolding IsNext
at_header s row fresh = tested-follows (second_header_tests row) _ _ (λ _. (
  record {
    header = row;
    rows_are = refl;
    fresh = record { tasks = fresh.tasks; items = fresh.items; total = fresh.total };
  },
  refl,
))

at_task_count : (s : ReaderState) (header row : Row) → IsFresh s →
    Follows (task_count_tests row) (IsNext (header ∷ row ∷ []))
    (tested (task_count_tests row) (record s { stage = stages.Tasks; count = tasks_stated row }))
unfolding IsNext
at_task_count s header row fresh = tested-follows (task_count_tests row) _ _ (λ _. (
  record {
    header = header;
    counted = row;
    task_rows = [];
    rows_are = refl;
    taken = record { count = refl; tasks = fresh.tasks; within = omega arith };
    total = fresh.total;
    none = fresh.items;
  },
  refl,
))

-- one task line more
more_tasks : (s : ReaderState) (counted row : Row) (rows : List Row) → TookTasks s counted rows → length rows < tasks_stated counted →
    TookTasks (with_task s row) counted (rows ++ row ∷ [])
more_tasks s counted row rows taken lt = record {
  count = taken.count;
  tasks = rw taken.tasks (sym (map_push task_on_row rows row));
  within = omega (arith, length_push rows row);
}

at_task : (s : ReaderState) (header counted row : Row) (rows : List Row) → s.stage ≡ stages.Tasks → TookTasks s counted rows
    → s.total ≡ extras_of rows → s.items ≡ no_items → length rows < tasks_stated counted →
    Follows (task_tests (extras_of rows) row) (IsNext (header ∷ counted ∷ (rows ++ row ∷ [])))
    (tested (task_tests s.total row) (with_task s row))
unfolding IsNext
at_task s header counted row rows stage taken total none lt =
    let tests = task_tests (extras_of rows) row in
    let same : task_tests s.total row ≡ tests = rw total refl in
    subst (λ (ts : List (Test GraphKind)). Follows tests (IsNext (header ∷ counted ∷ (rows ++ row ∷ []))) (tested ts (with_task s row)))
    (sym same)
    (tested-follows tests (with_task s row) (IsNext (header ∷ counted ∷ (rows ++ row ∷ []))) (λ _. (
      subst (λ (st : Stage). staged_took st (with_task s row) (header ∷ counted ∷ (rows ++ row ∷ []))) (sym stage)
          (record {
            header = header;
            counted = counted;
            task_rows = rows ++ row ∷ [];
            rows_are = refl;
            taken = more_tasks s counted row rows taken lt;
            total = rw total (sym (sum_by_push (λ (r : Row). extra_size (task_on_row r)) rows row));
            none = none;
          }),
      refl,
    )))

-- the line with the number of items
at_item_count : (s : ReaderState) (header counted row : Row) (rows : List Row)
    → TookTasks s counted rows → s.total ≡ extras_of rows → s.items ≡ no_items
    → length rows ≡ tasks_stated counted →
    Follows (item_count_tests row) (IsNext (header ∷ counted ∷ (rows ++ row ∷ [])))
    (tested (item_count_tests row) (record s { stage = stages.Items; item_count = items_stated row }))
unfolding IsNext
at_item_count s header counted row rows taken total none whole = tested-follows (item_count_tests row) _ _ (λ _. (
  record {
    header = header;
    counted = counted;
    task_rows = rows;
    items_counted = row;
    item_rows = [];
    rows_are = refl;
    taken = record {
      tasks = record { count = taken.count; tasks = taken.tasks; within = taken.within };
      whole = whole;
      item_count = refl;
      items = none;
      total = omega (arith, total);
      few = omega arith;
    };
  },
  refl,
))

at_tasks : (s : ReaderState) (header counted row : Row) (rows : List Row) → s.stage ≡ stages.Tasks → TookTasks s counted rows
    → s.total ≡ extras_of rows → s.items ≡ no_items →
    Follows (second_body_tests (tasks_stated counted) rows row) (IsNext (header ∷ counted ∷ (rows ++ row ∷ []))) (tasks_step s row)
at_tasks s header counted row rows stage taken total none = go (nat_lt (length rows) (tasks_stated counted)) refl where
  long : length s.tasks ≡ length rows
  long = ap length taken.tasks ∙ length-map rows task_on_row

  same : nat_lt (length s.tasks) s.count ≡ nat_lt (length rows) (tasks_stated counted)
  same = rw (long, taken.count) refl

  go : (b : Bool) → nat_lt (length rows) (tasks_stated counted) ≡ b →
      Follows (second_body_tests (tasks_stated counted) rows row) (IsNext (header ∷ counted ∷ (rows ++ row ∷ []))) (tasks_step s row)
  go true e = rw (same, e) (at_task s header counted row rows stage taken total none (ltb-true _ _ e))
  go false e =
      let whole : length rows ≡ tasks_stated counted = omega (arith, ltb-false (length rows) (tasks_stated counted) e, taken.within) in
      let none_left : drop (tasks_stated counted) rows ≡ [] = drop_all (tasks_stated counted) rows (omega arith) in
      rw (same, e, none_left) (at_item_count s header counted row rows taken total none whole)

-- the readers so far are those of the item lines
uses_taken : (s : ReaderState) (counted items_counted : Row) (rows items : List Row) → TookItems s counted rows items_counted items
    → uses_so_far s.items ≡ uses_of items
uses_taken s counted items_counted rows items taken =
    ap uses_so_far taken.items ∙ add-zero (sum_by reader_count (map item_on_row items)) ∙ sum_by-map reader_count item_on_row items

-- one item line more
more_items : (s : ReaderState) (counted items_counted row : Row) (rows items : List Row) → TookItems s counted rows items_counted items
    → length items < items_stated items_counted → TookItems (with_item_line s row) counted rows items_counted (items ++ row ∷ [])
more_items s counted items_counted row rows items taken lt = record {
  tasks = record { count = taken.tasks.count; tasks = taken.tasks.tasks; within = taken.tasks.within };
  whole = taken.whole;
  item_count = taken.item_count;
  items = rw taken.items (ap (λ (xs : List SharedItem). record { items = xs; waiting = [] }) (sym (map_push item_on_row items row)));
  total = omega (arith, taken.total, sum_by_push (λ (r : Row). shared_size (item_on_row r)) items row);
  few = omega (arith, length_push items row);
}

at_item : (s : ReaderState) (header counted items_counted row : Row) (rows items : List Row) → s.stage ≡ stages.Items
    → TookItems s counted rows items_counted items → length items < items_stated items_counted →
    Follows (item_tests (tasks_stated counted) (extras_of rows + item_sizes_of items) (uses_of items) row)
    (IsNext (header ∷ counted ∷ (rows ++ items_counted ∷ (items ++ row ∷ []))))
    (tested (item_tests s.count s.total (uses_so_far s.items) row) (with_item_line s row))
unfolding IsNext
at_item s header counted items_counted row rows items stage taken lt =
    let tests = item_tests (tasks_stated counted) (extras_of rows + item_sizes_of items) (uses_of items) row in
    let all = header ∷ counted ∷ (rows ++ items_counted ∷ (items ++ row ∷ [])) in
    let uses : uses_so_far s.items ≡ uses_of items = uses_taken s counted items_counted rows items taken in
    let same : item_tests s.count s.total (uses_so_far s.items) row ≡ tests = rw (taken.tasks.count, taken.total, uses) refl in
    subst (λ (ts : List (Test GraphKind)). Follows tests (IsNext all) (tested ts (with_item_line s row))) (sym same)
    (tested-follows tests (with_item_line s row) (IsNext all) (λ _. (
      subst (λ (st : Stage). staged_took st (with_item_line s row) all) (sym stage)
          (record {
            header = header;
            counted = counted;
            task_rows = rows;
            items_counted = items_counted;
            item_rows = items ++ row ∷ [];
            rows_are = refl;
            taken = more_items s counted items_counted row rows items taken lt;
          }),
      refl,
    )))

at_last : (s : ReaderState) (header counted items_counted row : Row) (rows items : List Row) → TookItems s counted rows items_counted items
    → length items ≡ items_stated items_counted →
    Follows (last_tests kinds.Section row) (IsNext (header ∷ counted ∷ (rows ++ items_counted ∷ (items ++ row ∷ []))))
    (tested (last_tests kinds.Section row) (record s { stage = stages.Ended }))
unfolding IsNext
at_last s header counted items_counted row rows items taken complete = tested-follows (last_tests kinds.Section row) _ _ (λ _. (
  record {
    header = header;
    counted = counted;
    task_rows = rows;
    items_counted = items_counted;
    item_rows = items;
    last = row;
    rows_are = refl;
    taken = record {
      tasks = record { count = taken.tasks.count; tasks = taken.tasks.tasks; within = taken.tasks.within };
      whole = taken.whole;
      item_count = taken.item_count;
      items = taken.items;
      total = taken.total;
      few = taken.few;
    };
    complete = complete;
  },
  refl,
))

-- past the tasks, the tests are those of the lines since then
pub past_tasks : (n : ℕ) (rows : List Row) (counted : Row) (items : List Row) (row : Row) → length rows ≡ n
    → second_body_tests n (rows ++ counted ∷ items) row ≡ item_part_tests n (extras_of rows) (counted ∷ items) row
past_tasks n rows counted items row whole =
    let past : nat_lt (length (rows ++ counted ∷ items)) n ≡ false = le-ltb _ _ (omega (arith, length-append rows (counted ∷ items))) in
    rw (past, take_at rows (counted ∷ items) n whole, drop_at rows (counted ∷ items) n whole) refl

at_items : (s : ReaderState) (header counted items_counted row : Row) (rows items : List Row) → s.stage ≡ stages.Items
    → TookItems s counted rows items_counted items →
    Follows (item_part_tests (tasks_stated counted) (extras_of rows) (items_counted ∷ items) row)
    (IsNext (header ∷ counted ∷ (rows ++ items_counted ∷ (items ++ row ∷ [])))) (items_step s row)
at_items s header counted items_counted row rows items stage taken = go (nat_lt (length items) (items_stated items_counted)) refl where
  long : length s.items.items ≡ length items
  long = ap (λ (made : ItemsSoFar). length made.items) taken.items ∙ length-map items item_on_row

  same : nat_lt (length s.items.items) s.item_count ≡ nat_lt (length items) (items_stated items_counted)
  same = rw (long, taken.item_count) refl

  go : (b : Bool) → nat_lt (length items) (items_stated items_counted) ≡ b →
      Follows (item_part_tests (tasks_stated counted) (extras_of rows) (items_counted ∷ items) row)
      (IsNext (header ∷ counted ∷ (rows ++ items_counted ∷ (items ++ row ∷ [])))) (items_step s row)
  go true e = rw (same, e) (at_item s header counted items_counted row rows items stage taken (ltb-true _ _ e))
  go false e =
      let complete : length items ≡ items_stated items_counted =
      omega (arith, ltb-false (length items) (items_stated items_counted) e, taken.few) in
      let none_left : drop (items_stated items_counted) items ≡ [] = drop_all (items_stated items_counted) items (omega arith) in
      rw (same, e, none_left) (at_last s header counted items_counted row rows items taken complete)

-- after the last line
at_end : (counted items_counted last row : Row) (rows items : List Row) → length rows ≡ tasks_stated counted
    → length items ≡ items_stated items_counted → (P : ReaderState → Type 0) →
    Follows (second_body_tests (tasks_stated counted) (rows ++ items_counted ∷ (items ++ last ∷ [])) row) P (Err (fault kinds.Section row))
at_end counted items_counted last row rows items whole complete P =
    let past : nat_lt (length (items ++ last ∷ [])) (items_stated items_counted) ≡ false = le-ltb _ _ (omega (arith, length_push items last)) in
    let left = drop_at items (last ∷ []) (items_stated items_counted) complete in
    rw (past_tasks (tasks_stated counted) rows items_counted (items ++ last ∷ []) row whole, past, left) refl

-- the lines before with one line more at their end
one_more : (header counted items_counted row : Row) (rows items : List Row)
    → (header ∷ counted ∷ (rows ++ items_counted ∷ items)) ++ row ∷ [] ≡ header ∷ counted ∷ (rows ++ items_counted ∷ (items ++ row ∷ []))
one_more header counted items_counted row rows items =
    ap (λ (rs : List Row). header ∷ counted ∷ rs) (append_assoc rows (items_counted ∷ items) (row ∷ []))

staged_step_follows : (stage : Stage) (s : ReaderState) (before : List Row) (row : Row) → s.stage ≡ stage → staged_took stage s before →
    Follows (second_line_tests before row) (IsNext (before ++ row ∷ [])) (staged_step stage s row)
staged_step_follows stages.Header s before row e taken =
    subst (λ (rows : List Row). Follows (second_line_tests rows row) (IsNext (rows ++ row ∷ [])) (staged_step stages.Header s row))
    (sym taken.0) (at_header s row taken.1)
staged_step_follows stages.TaskCount s before row e taken =
    subst (λ (rows : List Row). Follows (second_line_tests rows row) (IsNext (rows ++ row ∷ [])) (staged_step stages.TaskCount s row))
    (sym taken.rows_are) (at_task_count s taken.header row taken.fresh)
staged_step_follows stages.Tasks s before row e taken =
    subst (λ (rows : List Row). Follows (second_line_tests rows row) (IsNext (rows ++ row ∷ [])) (staged_step stages.Tasks s row))
    (sym taken.rows_are) (at_tasks s taken.header taken.counted row taken.task_rows e taken.taken taken.total taken.none)
staged_step_follows stages.Items s before row e taken =
    let all = taken.header ∷ taken.counted ∷ (taken.task_rows ++ taken.items_counted ∷ taken.item_rows) in
    subst (λ (rows : List Row). Follows (second_line_tests rows row) (IsNext (rows ++ row ∷ [])) (staged_step stages.Items s row))
    (sym taken.rows_are)
    (subst (λ (rows : List Row). Follows (second_line_tests all row) (IsNext rows) (staged_step stages.Items s row))
    (sym (one_more taken.header taken.counted taken.items_counted row taken.task_rows taken.item_rows))
    (subst (λ (ts : List (Test GraphKind)). Follows ts
    (IsNext (taken.header ∷ taken.counted ∷ (taken.task_rows ++ taken.items_counted ∷ (taken.item_rows ++ row ∷ [])))) (items_step s row))
    (sym (past_tasks (tasks_stated taken.counted) taken.task_rows taken.items_counted taken.item_rows row taken.taken.whole))
    (at_items s taken.header taken.counted taken.items_counted row taken.task_rows taken.item_rows e taken.taken)))
staged_step_follows stages.Ended s before row e taken =
    subst (λ (rows : List Row). Follows (second_line_tests rows row) (IsNext (rows ++ row ∷ [])) (staged_step stages.Ended s row))
    (sym taken.rows_are)
    (at_end taken.counted taken.items_counted taken.last row taken.task_rows taken.item_rows taken.taken.whole taken.complete
    (IsNext ((taken.header ∷ taken.counted ∷ (taken.task_rows ++ taken.items_counted ∷ (taken.item_rows ++ taken.last ∷ []))) ++ row ∷ [])))

pub step_follows : (s : ReaderState) (before : List Row) (row : Row) → took s before → ArePassed second_format before →
    Follows (second_line_tests before row) (λ next. took next (before ++ row ∷ []) × (second_format ≡ second_format)) (second_step s row)
unfolding IsNext second_step
step_follows s before row taken passed = staged_step_follows s.stage s before row refl taken

-- ---- the end

Ends : List Row → ℕ → Stage → ReaderState → Type 0
Ends rows past stage s = Follows (second_end_tests rows past) (λ next. took next rows) (staged_end stage s past)

staged_end_follows : (stage : Stage) (s : ReaderState) (rows : List Row) (past : ℕ) → s.stage ≡ stage → staged_took stage s rows
    → Ends rows past stage s
unfolding Ends
staged_end_follows stages.Header s rows past e taken = rw taken.0 refl
staged_end_follows stages.TaskCount s rows past e taken = rw taken.rows_are refl
staged_end_follows stages.Tasks s rows past e taken =
    let none_left : drop (tasks_stated taken.counted) taken.task_rows ≡ [] =
    drop_all (tasks_stated taken.counted) taken.task_rows taken.taken.within in
    rw (taken.rows_are, none_left) refl
staged_end_follows stages.Items s rows past e taken =
    let left = drop_at taken.task_rows (taken.items_counted ∷ taken.item_rows) (tasks_stated taken.counted) taken.taken.whole in
    let missing : (length taken.item_rows == items_stated taken.items_counted + 1) ≡ false =
    ne_eqb _ _ (let w = taken.taken.few in omega arith) in
    rw (taken.rows_are, left, missing) refl
staged_end_follows stages.Ended s rows past e taken =
    let left = drop_at taken.task_rows (taken.items_counted ∷ (taken.item_rows ++ taken.last ∷ []))
    (tasks_stated taken.counted) taken.taken.whole in
    let all : (length (taken.item_rows ++ taken.last ∷ []) == items_stated taken.items_counted + 1) ≡ true =
    eq-eqb _ _ (let w = taken.complete in omega (arith, length_push taken.item_rows taken.last)) in
    let complete : is_second_complete rows ≡ true = rw (taken.rows_are, left, all) refl in
    (rw complete refl, subst (λ (st : Stage). staged_took st s rows) (sym e) taken)

pub end_follows : (s : ReaderState) (rows : List Row) (past : ℕ) → took s rows → ArePassed second_format rows →
    Follows (second_end_tests rows past) (λ next. took next rows) (second_end s past)
unfolding Ends second_end
end_follows s rows past taken passed = staged_end_follows s.stage s rows past refl taken
