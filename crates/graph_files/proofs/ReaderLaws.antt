-- What the reader of graph files does with a line, and with the end, is what the tests of the format say.
use Rattle.std.specs.Prelude.{◌≡◌, ◌==◌, ℕ, ◌+◌, ◌<◌, Bool, true, false, nat_lt, List, ◌∷◌, ◌++◌, [], length, drop, refl, Err}
use Rattle.std.proofs.Common.{sym, ap, subst, ◌∙◌, arith, eq-eqb}
use Rattle.std.proofs.lemmas.List.{map_push, length-map, length_push, length-append, take_at, drop_at, drop_all, append_assoc}
use Rattle.std.proofs.lemmas.List.Sums.{sum_by_push}
use Rattle.std.proofs.lemmas.Bool.{ltb-true, ltb-false, le-ltb, ne_eqb}
use Rattle.mp_text.specs.Text.{Row}
use Rattle.mp_text.specs.Grammar.{Test, ArePassed, fault}
use Rattle.mp_text.specs.Reading.{Follows, tested}
use Rattle.mp_text.specs.ReadingLaws.{tested-follows}
use Rattle.mp_system.specs.System.{extra_size}
use Rattle.graphs.specs.Graph.{arc_size}
use Rattle.graph_files.specs.GraphFile.{graph_format, graph_line_tests, graph_end_tests, graph_header_tests, task_count_tests}
use Rattle.graph_files.specs.GraphFile.{tasks_stated, arc_count_tests, arcs_stated, task_tests, task_on_row, extras_of, arc_tests}
use Rattle.graph_files.specs.GraphFile.{arc_of, sizes_of, arc_part_tests, graph_body_tests, is_graph_complete}
use Rattle.graph_files.specs.Reader.{ReaderState, IsFresh, TookTasks, TookArcs, staged_step, staged_end, staged_took}
use Rattle.graph_files.specs.Reader.{tasks_step, arcs_step, with_task, with_arc, graph_step, graph_end, took}
use Rattle.graph_files.specs.declared.kind.GraphKind.{GraphKind}
use Rattle.graph_files.specs.declared.kind.GraphKind.TheVariants as kinds
use Rattle.graph_files.specs.declared.stage.Stage.{Stage}
use Rattle.graph_files.specs.declared.stage.Stage.TheVariants as stages
use Rattle.file_frame.specs.Frame.{last_tests}

-- ---- lines

IsNext : (rows : List Row) (next : ReaderState) → Type 0
IsNext rows next = took next rows × (graph_format ≡ graph_format)

at_header : (s : ReaderState) (row : Row) → IsFresh s →
    Follows (graph_header_tests row) (IsNext (row ∷ [])) (tested (graph_header_tests row) (record s { stage = stages.TaskCount }))
unfolding IsNext
at_header s row fresh = tested-follows (graph_header_tests row) _ _ (λ _. (
  record {
    header = row;
    rows_are = refl;
    fresh = record { tasks = fresh.tasks; lines = fresh.lines; arcs = fresh.arcs; total = fresh.total };
  },
  refl,
))

at_task_count : (s : ReaderState) (header row : Row) → IsFresh s →
    Follows (task_count_tests row) (IsNext (header ∷ row ∷ []))
    (tested (task_count_tests row) (record s { stage = stages.Tasks; count = tasks_stated row }))
unfolding IsNext
at_task_count s header row fresh = tested-follows (task_count_tests row) _ _ (λ _. (
  record {
    header = header;
    counted = row;
    task_rows = [];
    rows_are = refl;
    taken = record { count = refl; tasks = fresh.tasks; lines = fresh.lines; within = omega arith };
    total = fresh.total;
    none = fresh.arcs;
  },
  refl,
))

-- one task line more
more_tasks : (s : ReaderState) (counted row : Row) (rows : List Row) → TookTasks s counted rows → length rows < tasks_stated counted →
    TookTasks (with_task s row) counted (rows ++ row ∷ [])
more_tasks s counted row rows taken lt = record {
  count = taken.count;
  tasks = rw taken.tasks (sym (map_push task_on_row rows row));
  lines = rw taken.lines (sym (map_push (λ (r : Row). r.number) rows row));
  within = omega (arith, length_push rows row);
}

at_task : (s : ReaderState) (header counted row : Row) (rows : List Row) → s.stage ≡ stages.Tasks → TookTasks s counted rows
    → s.total ≡ extras_of rows → s.arcs ≡ [] → length rows < tasks_stated counted →
    Follows (task_tests (extras_of rows) row) (IsNext (header ∷ counted ∷ (rows ++ row ∷ [])))
    (tested (task_tests s.total row) (with_task s row))
unfolding IsNext
at_task s header counted row rows stage taken total none lt =
    let tests = task_tests (extras_of rows) row in
    let same : task_tests s.total row ≡ tests = rw total refl in
    subst (λ (ts : List (Test GraphKind)). Follows tests (IsNext (header ∷ counted ∷ (rows ++ row ∷ []))) (tested ts (with_task s row)))
    (sym same)
    (tested-follows tests (with_task s row) (IsNext (header ∷ counted ∷ (rows ++ row ∷ []))) (λ _. (
      subst (λ (st : Stage). staged_took st (with_task s row) (header ∷ counted ∷ (rows ++ row ∷ []))) (sym stage)
          (record {
            header = header;
            counted = counted;
            task_rows = rows ++ row ∷ [];
            rows_are = refl;
            taken = more_tasks s counted row rows taken lt;
            total = rw total (sym (sum_by_push (λ (r : Row). extra_size (task_on_row r)) rows row));
            none = none;
          }),
      refl,
    )))

-- the line with the number of arcs
at_arc_count : (s : ReaderState) (header counted row : Row) (rows : List Row)
    → TookTasks s counted rows → s.total ≡ extras_of rows → s.arcs ≡ []
    → length rows ≡ tasks_stated counted →
    Follows (arc_count_tests row) (IsNext (header ∷ counted ∷ (rows ++ row ∷ [])))
    (tested (arc_count_tests row) (record s { stage = stages.Arcs; arc_count = arcs_stated row }))
unfolding IsNext
at_arc_count s header counted row rows taken total none whole = tested-follows (arc_count_tests row) _ _ (λ _. (
  record {
    header = header;
    counted = counted;
    task_rows = rows;
    arcs_counted = row;
    arc_rows = [];
    rows_are = refl;
    taken = record {
      tasks = record { count = taken.count; tasks = taken.tasks; lines = taken.lines; within = taken.within };
      whole = whole;
      arc_count = refl;
      arcs = none;
      total = omega (arith, total);
      few = omega arith;
    };
  },
  refl,
))

at_tasks : (s : ReaderState) (header counted row : Row) (rows : List Row) → s.stage ≡ stages.Tasks → TookTasks s counted rows
    → s.total ≡ extras_of rows → s.arcs ≡ [] →
    Follows (graph_body_tests (tasks_stated counted) rows row) (IsNext (header ∷ counted ∷ (rows ++ row ∷ []))) (tasks_step s row)
at_tasks s header counted row rows stage taken total none = go (nat_lt (length rows) (tasks_stated counted)) refl where
  long : length s.tasks ≡ length rows
  long = ap length taken.tasks ∙ length-map rows task_on_row

  same : nat_lt (length s.tasks) s.count ≡ nat_lt (length rows) (tasks_stated counted)
  same = rw (long, taken.count) refl

  go : (b : Bool) → nat_lt (length rows) (tasks_stated counted) ≡ b →
      Follows (graph_body_tests (tasks_stated counted) rows row) (IsNext (header ∷ counted ∷ (rows ++ row ∷ []))) (tasks_step s row)
  go true e = rw (same, e) (at_task s header counted row rows stage taken total none (ltb-true _ _ e))
  go false e =
      let whole : length rows ≡ tasks_stated counted = omega (arith, ltb-false (length rows) (tasks_stated counted) e, taken.within) in
      let none_left : drop (tasks_stated counted) rows ≡ [] = drop_all (tasks_stated counted) rows (omega arith) in
      rw (same, e, none_left) (at_arc_count s header counted row rows taken total none whole)

-- one arc line more
more_arcs : (s : ReaderState) (counted arcs_counted row : Row) (rows arcs : List Row) → TookArcs s counted rows arcs_counted arcs
    → length arcs < arcs_stated arcs_counted → TookArcs (with_arc s row) counted rows arcs_counted (arcs ++ row ∷ [])
more_arcs s counted arcs_counted row rows arcs taken lt = record {
  tasks = record { count = taken.tasks.count; tasks = taken.tasks.tasks; lines = taken.tasks.lines; within = taken.tasks.within };
  whole = taken.whole;
  arc_count = taken.arc_count;
  arcs = rw taken.arcs (sym (map_push arc_of arcs row));
  total = omega (arith, taken.total, sum_by_push (λ (r : Row). arc_size (arc_of r)) arcs row);
  few = omega (arith, length_push arcs row);
}

at_arc : (s : ReaderState) (header counted arcs_counted row : Row) (rows arcs : List Row) → s.stage ≡ stages.Arcs
    → TookArcs s counted rows arcs_counted arcs → length arcs < arcs_stated arcs_counted →
    Follows (arc_tests (tasks_stated counted) (extras_of rows + sizes_of arcs) row)
    (IsNext (header ∷ counted ∷ (rows ++ arcs_counted ∷ (arcs ++ row ∷ [])))) (tested (arc_tests s.count s.total row) (with_arc s row))
unfolding IsNext
at_arc s header counted arcs_counted row rows arcs stage taken lt =
    let tests = arc_tests (tasks_stated counted) (extras_of rows + sizes_of arcs) row in
    let all = header ∷ counted ∷ (rows ++ arcs_counted ∷ (arcs ++ row ∷ [])) in
    let same : arc_tests s.count s.total row ≡ tests = rw (taken.tasks.count, taken.total) refl in
    subst (λ (ts : List (Test GraphKind)). Follows tests (IsNext all) (tested ts (with_arc s row))) (sym same)
    (tested-follows tests (with_arc s row) (IsNext all) (λ _. (
      subst (λ (st : Stage). staged_took st (with_arc s row) all) (sym stage)
          (record {
            header = header;
            counted = counted;
            task_rows = rows;
            arcs_counted = arcs_counted;
            arc_rows = arcs ++ row ∷ [];
            rows_are = refl;
            taken = more_arcs s counted arcs_counted row rows arcs taken lt;
          }),
      refl,
    )))

at_last : (s : ReaderState) (header counted arcs_counted row : Row) (rows arcs : List Row) → TookArcs s counted rows arcs_counted arcs
    → length arcs ≡ arcs_stated arcs_counted →
    Follows (last_tests kinds.Section row) (IsNext (header ∷ counted ∷ (rows ++ arcs_counted ∷ (arcs ++ row ∷ []))))
    (tested (last_tests kinds.Section row) (record s { stage = stages.Ended }))
unfolding IsNext
at_last s header counted arcs_counted row rows arcs taken complete = tested-follows (last_tests kinds.Section row) _ _ (λ _. (
  record {
    header = header;
    counted = counted;
    task_rows = rows;
    arcs_counted = arcs_counted;
    arc_rows = arcs;
    last = row;
    rows_are = refl;
    taken = record {
      tasks = record { count = taken.tasks.count; tasks = taken.tasks.tasks; lines = taken.tasks.lines; within = taken.tasks.within };
      whole = taken.whole;
      arc_count = taken.arc_count;
      arcs = taken.arcs;
      total = taken.total;
      few = taken.few;
    };
    complete = complete;
  },
  refl,
))

-- past the tasks, the tests are those of the lines since then
pub past_tasks : (n : ℕ) (rows : List Row) (counted : Row) (arcs : List Row) (row : Row) → length rows ≡ n
    → graph_body_tests n (rows ++ counted ∷ arcs) row ≡ arc_part_tests n (extras_of rows) (counted ∷ arcs) row
past_tasks n rows counted arcs row whole =
    let past : nat_lt (length (rows ++ counted ∷ arcs)) n ≡ false = le-ltb _ _ (omega (arith, length-append rows (counted ∷ arcs))) in
    rw (past, take_at rows (counted ∷ arcs) n whole, drop_at rows (counted ∷ arcs) n whole) refl

at_arcs : (s : ReaderState) (header counted arcs_counted row : Row) (rows arcs : List Row) → s.stage ≡ stages.Arcs
    → TookArcs s counted rows arcs_counted arcs →
    Follows (arc_part_tests (tasks_stated counted) (extras_of rows) (arcs_counted ∷ arcs) row)
    (IsNext (header ∷ counted ∷ (rows ++ arcs_counted ∷ (arcs ++ row ∷ [])))) (arcs_step s row)
at_arcs s header counted arcs_counted row rows arcs stage taken = go (nat_lt (length arcs) (arcs_stated arcs_counted)) refl where
  long : length s.arcs ≡ length arcs
  long = ap length taken.arcs ∙ length-map arcs arc_of

  same : nat_lt (length s.arcs) s.arc_count ≡ nat_lt (length arcs) (arcs_stated arcs_counted)
  same = rw (long, taken.arc_count) refl

  go : (b : Bool) → nat_lt (length arcs) (arcs_stated arcs_counted) ≡ b →
      Follows (arc_part_tests (tasks_stated counted) (extras_of rows) (arcs_counted ∷ arcs) row)
      (IsNext (header ∷ counted ∷ (rows ++ arcs_counted ∷ (arcs ++ row ∷ [])))) (arcs_step s row)
  go true e = rw (same, e) (at_arc s header counted arcs_counted row rows arcs stage taken (ltb-true _ _ e))
  go false e =
      let complete : length arcs ≡ arcs_stated arcs_counted =
      omega (arith, ltb-false (length arcs) (arcs_stated arcs_counted) e, taken.few) in
      let none_left : drop (arcs_stated arcs_counted) arcs ≡ [] = drop_all (arcs_stated arcs_counted) arcs (omega arith) in
      rw (same, e, none_left) (at_last s header counted arcs_counted row rows arcs taken complete)

-- after the last line
at_end : (counted arcs_counted last row : Row) (rows arcs : List Row) → length rows ≡ tasks_stated counted
    → length arcs ≡ arcs_stated arcs_counted → (P : ReaderState → Type 0) →
    Follows (graph_body_tests (tasks_stated counted) (rows ++ arcs_counted ∷ (arcs ++ last ∷ [])) row) P (Err (fault kinds.Section row))
at_end counted arcs_counted last row rows arcs whole complete P =
    let past : nat_lt (length (arcs ++ last ∷ [])) (arcs_stated arcs_counted) ≡ false = le-ltb _ _ (omega (arith, length_push arcs last)) in
    let left = drop_at arcs (last ∷ []) (arcs_stated arcs_counted) complete in
    rw (past_tasks (tasks_stated counted) rows arcs_counted (arcs ++ last ∷ []) row whole, past, left) refl

-- the lines before with one line more at their end
one_more : (header counted arcs_counted row : Row) (rows arcs : List Row)
    → (header ∷ counted ∷ (rows ++ arcs_counted ∷ arcs)) ++ row ∷ [] ≡ header ∷ counted ∷ (rows ++ arcs_counted ∷ (arcs ++ row ∷ []))
one_more header counted arcs_counted row rows arcs =
    ap (λ (rs : List Row). header ∷ counted ∷ rs) (append_assoc rows (arcs_counted ∷ arcs) (row ∷ []))

staged_step_follows : (stage : Stage) (s : ReaderState) (before : List Row) (row : Row) → s.stage ≡ stage → staged_took stage s before →
    Follows (graph_line_tests before row) (IsNext (before ++ row ∷ [])) (staged_step stage s row)
staged_step_follows stages.Header s before row e taken =
    subst (λ (rows : List Row). Follows (graph_line_tests rows row) (IsNext (rows ++ row ∷ [])) (staged_step stages.Header s row))
    (sym taken.0) (at_header s row taken.1)
staged_step_follows stages.TaskCount s before row e taken =
    subst (λ (rows : List Row). Follows (graph_line_tests rows row) (IsNext (rows ++ row ∷ [])) (staged_step stages.TaskCount s row))
    (sym taken.rows_are) (at_task_count s taken.header row taken.fresh)
staged_step_follows stages.Tasks s before row e taken =
    subst (λ (rows : List Row). Follows (graph_line_tests rows row) (IsNext (rows ++ row ∷ [])) (staged_step stages.Tasks s row))
    (sym taken.rows_are) (at_tasks s taken.header taken.counted row taken.task_rows e taken.taken taken.total taken.none)
staged_step_follows stages.Arcs s before row e taken =
    let all = taken.header ∷ taken.counted ∷ (taken.task_rows ++ taken.arcs_counted ∷ taken.arc_rows) in
    subst (λ (rows : List Row). Follows (graph_line_tests rows row) (IsNext (rows ++ row ∷ [])) (staged_step stages.Arcs s row))
    (sym taken.rows_are)
    (subst (λ (rows : List Row). Follows (graph_line_tests all row) (IsNext rows) (staged_step stages.Arcs s row))
    (sym (one_more taken.header taken.counted taken.arcs_counted row taken.task_rows taken.arc_rows))
    (subst (λ (ts : List (Test GraphKind)). Follows ts
    (IsNext (taken.header ∷ taken.counted ∷ (taken.task_rows ++ taken.arcs_counted ∷ (taken.arc_rows ++ row ∷ [])))) (arcs_step s row))
    (sym (past_tasks (tasks_stated taken.counted) taken.task_rows taken.arcs_counted taken.arc_rows row taken.taken.whole))
    (at_arcs s taken.header taken.counted taken.arcs_counted row taken.task_rows taken.arc_rows e taken.taken)))
staged_step_follows stages.Ended s before row e taken =
    subst (λ (rows : List Row). Follows (graph_line_tests rows row) (IsNext (rows ++ row ∷ [])) (staged_step stages.Ended s row))
    (sym taken.rows_are)
    (at_end taken.counted taken.arcs_counted taken.last row taken.task_rows taken.arc_rows taken.taken.whole taken.complete
    (IsNext ((taken.header ∷ taken.counted ∷ (taken.task_rows ++ taken.arcs_counted ∷ (taken.arc_rows ++ taken.last ∷ []))) ++ row ∷ [])))

pub step_follows : (s : ReaderState) (before : List Row) (row : Row) → took s before → ArePassed graph_format before →
    Follows (graph_line_tests before row) (λ next. took next (before ++ row ∷ []) × (graph_format ≡ graph_format)) (graph_step s row)
unfolding IsNext graph_step
step_follows s before row taken passed = staged_step_follows s.stage s before row refl taken

-- ---- the end

Ends : List Row → ℕ → Stage → ReaderState → Type 0
Ends rows past stage s = Follows (graph_end_tests rows past) (λ next. took next rows) (staged_end stage s past)

staged_end_follows : (stage : Stage) (s : ReaderState) (rows : List Row) (past : ℕ) → s.stage ≡ stage → staged_took stage s rows
    → Ends rows past stage s
unfolding Ends
staged_end_follows stages.Header s rows past e taken = rw taken.0 refl
staged_end_follows stages.TaskCount s rows past e taken = rw taken.rows_are refl
staged_end_follows stages.Tasks s rows past e taken =
    let none_left : drop (tasks_stated taken.counted) taken.task_rows ≡ [] =
    drop_all (tasks_stated taken.counted) taken.task_rows taken.taken.within in
    rw (taken.rows_are, none_left) refl
staged_end_follows stages.Arcs s rows past e taken =
    let left = drop_at taken.task_rows (taken.arcs_counted ∷ taken.arc_rows) (tasks_stated taken.counted) taken.taken.whole in
    let missing : (length taken.arc_rows == arcs_stated taken.arcs_counted + 1) ≡ false =
    ne_eqb _ _ (let w = taken.taken.few in omega arith) in
    rw (taken.rows_are, left, missing) refl
staged_end_follows stages.Ended s rows past e taken =
    let left = drop_at taken.task_rows (taken.arcs_counted ∷ (taken.arc_rows ++ taken.last ∷ []))
    (tasks_stated taken.counted) taken.taken.whole in
    let all : (length (taken.arc_rows ++ taken.last ∷ []) == arcs_stated taken.arcs_counted + 1) ≡ true =
    eq-eqb _ _ (let w = taken.complete in omega (arith, length_push taken.arc_rows taken.last)) in
    let complete : is_graph_complete rows ≡ true = rw (taken.rows_are, left, all) refl in
    (rw complete refl, subst (λ (st : Stage). staged_took st s rows) (sym e) taken)

pub end_follows : (s : ReaderState) (rows : List Row) (past : ℕ) → took s rows → ArePassed graph_format rows →
    Follows (graph_end_tests rows past) (λ next. took next rows) (graph_end s past)
unfolding Ends graph_end
end_follows s rows past taken passed = staged_end_follows s.stage s rows past refl taken
