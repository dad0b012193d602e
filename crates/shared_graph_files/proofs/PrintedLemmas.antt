-- The text of a shared system is read as that system.
use Rattle.std.proofs.Common.{◌≡◌, ℕ, zero, suc, ◌+◌, ◌-◌, ◌^◌, ◌<◌, ◌≤◌, Bool, true, false, ltb, eqb, List, [], ◌∷◌, ◌++◌, inl, inr, length, get_or}
use Rattle.std.proofs.Common.{drop, map, refl, sym, ap, subst, ◌∙◌, arith, None, length-append, append-nil, codes, unwrap_or}
use Rattle.std.specs.List.{All, sum_by, list_all}
use Rattle.std.specs.Str.{bytes_eq}
use Rattle.std.proofs.lemmas.Bool.{and_from, le-leb, lt-ltb, le-ltb, ne_eqb, eq-eqb}
use Rattle.std.proofs.lemmas.List.{length-map, length_push, get_or_default, drop_all, drop_at}
use Rattle.std.proofs.lemmas.List.Elements.{All-nil, All-cons, All-head, All-tail, All-weaker}
use Rattle.std.proofs.lemmas.List.Folds.{list_all-append}
use Rattle.std.proofs.lemmas.List.Sums.{sum_by-cons, sum_by-append}
use Rattle.limits.specs.Limits.{most_tasks, most_positions, most_size, most_time, most_total, most_uses}
use Rattle.limits.specs.declared.name.LimitName.{LimitName}
use Rattle.limits.specs.declared.name.LimitName.TheVariants as limits
use Rattle.lists.proofs.Lists.{sum_by-map, within as last_or_within}
use Rattle.mp_text.specs.declared.layout.Layout.TheVariants.{Commented}
use Rattle.mp_text.specs.Text.{Row}
use Rattle.mp_text.specs.Ahead.{rows_of_bytes}
use Rattle.mp_text.specs.Grammar.{first_failure, ArePassed}
use Rattle.mp_text.specs.Report.{is_counted, numbered_from}
use Rattle.file_frame.specs.declared.version.Version.TheVariants.{Two}
use Rattle.file_frame.specs.Words.{after_word}
use Rattle.file_frame.specs.Frame.{count_tests, last_tests, has_first}
use Rattle.file_frame.specs.Printed.{section_line, end_line}
use Rattle.file_frame.proofs.PrintedLaws.{AreLaws, AreSmall, IsSmall, numbers_counted}
use Rattle.file_frame.proofs.LineLemmas.{header_row, header_names, section_is, section_counted}
use Rattle.mp_system.specs.declared.system.Task.{Task}
use Rattle.mp_system.specs.System.{IsTaskWithin, extra_size}
use Rattle.graphs.specs.Graph.{IsAmong}
use Rattle.shared_systems.specs.Shared.{SharedTaskSystem, SharedItem, shared_task_at, is_made_by}
use Rattle.shared_systems.specs.Bounds.{IsSharedSystem, IsSharedItemWithin, shared_size, reader_count}
use Rattle.shared_systems.proofs.KeySums.{where-le}
use Rattle.graph_files.specs.declared.kind.GraphKind.{GraphKind}
use Rattle.graph_files.specs.declared.kind.GraphKind.TheVariants as kinds
use Rattle.graph_files.specs.GraphFile.{task_count_tests, tasks_stated, task_tests, task_on_row, extras_of}
use Rattle.shared_graph_files.specs.SharedGraphFile.{second_format, second_header_tests, says_second, item_count_tests, items_stated}
use Rattle.shared_graph_files.specs.SharedGraphFile.{item_tests, item_on_row, item_sizes_of, uses_of}
use Rattle.shared_graph_files.specs.SharedGraphFile.{second_line_tests, is_second_complete, are_items_complete, system_stated, ReadsItems}
use Rattle.shared_graph_files.specs.EitherVersion.{is_second, ReadsAs, ReadsSharedGraph}
use Rattle.shared_graph_files.specs.SharedGraphText.{task_line, item_line, graph_lines_2, graph_text_2}
use Rattle.shared_graph_files.proofs.ItemLemmas.{ends_are, from_back, from_low}
use Rattle.shared_graph_files.proofs.ReaderLaws.{past_tasks}
use Rattle.shared_graph_files.proofs.StatedLemmas.{stated_is}
use Rattle.shared_graph_files.proofs.PrintedRows.{split_of, rows_of, split_at, IsReadBack, read_back, All-first, All-at}

-- ---- numbers that are printed

-- a share is at most all extras and sizes together
share-low : (system : SharedTaskSystem) → IsSharedSystem system → (i : ℕ) (d : Task) → i < length system.tasks
    → (get_or system.tasks i d).share ≤ most_total
share-low system is i d lt =
    let none : Task = record { extra = 0; share = 0; time = 0 } in
    let place : i + 1 - 1 ≡ i = omega arith in
    let at : shared_task_at system (i + 1) ≡ get_or system.tasks i d =
    ap (λ (k : ℕ). get_or system.tasks k none) place ∙ get_or_default system.tasks i none d lt in
    let share = (is.shares (i + 1) (omega arith, omega arith)).1 in
    let made = where-le (is_made_by (i + 1)) system.items in
    let one : extra_size (shared_task_at system (i + 1)) ≤ sum_by extra_size system.tasks =
    rw at (element-le extra_size system.tasks i d lt) in
    let low : (shared_task_at system (i + 1)).share ≤ most_total = omega (arith, share, made, one, is.total) in
    subst (λ (task : Task). task.share ≤ most_total) at low
  where
    element-le : {X : Type 0} (f : X → ℕ) (xs : List X) (i : ℕ) (d : X) → i < length xs → f (get_or xs i d) ≤ sum_by f xs
    element-le f [] i d lt = absurd (omega arith)
    element-le f (x ∷ xs) zero d lt = omega (arith, sum_by-cons f x xs)
    element-le f (x ∷ xs) (suc i) d lt = omega (arith, sum_by-cons f x xs, element-le f xs i d (omega arith))

-- a task whose numbers are all small enough
pub record IsTaskPrintable (task : Task) : Type 0 where
  pub within : IsTaskWithin task
  pub share : task.share ≤ most_total

pub printable : (system : SharedTaskSystem) → IsSharedSystem system → All IsTaskPrintable system.tasks
printable system is i d lt = record { within = is.tasks i d lt; share = share-low system is i d lt }

task_small : (task : Task) → IsTaskPrintable task → AreSmall (task.extra ∷ task.share ∷ task.time ∷ [])
task_small task fits =
    All-cons IsSmall task.extra (task.share ∷ task.time ∷ []) (omega (arith, fits.within.extra))
    (All-cons IsSmall task.share (task.time ∷ []) (omega (arith, fits.share))
    (All-cons IsSmall task.time [] (omega (arith, fits.within.time.1)) (All-nil IsSmall)))

item_small : (n : ℕ) (x : SharedItem) → n ≤ most_tasks → IsSharedItemWithin n x → AreSmall (x.size ∷ unwrap_or x.from 0 ∷ x.readers)
item_small n x few within =
    let low = from_low n x.from within.producer in
    All-cons IsSmall x.size (unwrap_or x.from 0 ∷ x.readers) (omega (arith, within.size))
    (All-cons IsSmall (unwrap_or x.from 0) x.readers (omega (arith, low, few))
    (All-weaker (IsAmong n) IsSmall (λ c among. omega (arith, among.1, few)) x.readers within.readers))

-- ---- one line

task_back : AreLaws → (task : Task) → IsTaskPrintable task → IsReadBack task_line task_on_row task
task_back laws task fits number = rw (laws.values (task.extra ∷ task.share ∷ task.time ∷ []) (task_small task fits)) refl

item_back : AreLaws → (n : ℕ) (x : SharedItem) → n ≤ most_tasks → IsSharedItemWithin n x → IsReadBack item_line item_on_row x
item_back laws n x few within number =
    rw (laws.values (x.size ∷ unwrap_or x.from 0 ∷ x.readers) (item_small n x few within), from_back n x.from within.producer) refl

task_passes : AreLaws → (total number : ℕ) (task : Task) → IsTaskPrintable task → total + task.extra ≤ most_total
    → first_failure (task_tests total (record { number = number; tokens = task_line task })) ≡ None
task_passes laws total number task fits sums =
    let some = fits.within.time.0 in
    let positive : eqb task.time 0 ≡ false = ne_eqb task.time 0 (λ z. omega arith) in
    rw (
      laws.values (task.extra ∷ task.share ∷ task.time ∷ []) (task_small task fits),
      positive,
      le-leb task.extra most_size fits.within.extra,
      le-leb task.time most_time fits.within.time.1,
      le-leb (total + task.extra) most_total sums,
    ) refl

item_passes : AreLaws → (n total uses number : ℕ) (x : SharedItem) → n ≤ most_tasks → IsSharedItemWithin n x
    → total + x.size ≤ most_total → uses + length x.readers ≤ most_uses
    → first_failure (item_tests n total uses (record { number = number; tokens = item_line x })) ≡ None
item_passes laws n total uses number x few within sums all =
    rw (
      laws.values (x.size ∷ unwrap_or x.from 0 ∷ x.readers) (item_small n x few within),
      from_back n x.from within.producer,
      ends_are n x within,
      le-leb x.size most_size within.size,
      le-leb (total + x.size) most_total sums,
      le-leb (uses + length x.readers) most_uses all,
    ) refl

-- a line that begins a section
section_row : List ℕ → ℕ → ℕ → Row
section_row word number n = record { number = number; tokens = section_line word n }

section_passes : AreLaws → (word : List ℕ) (no_section bad_number : GraphKind) (most : ℕ) (limit : LimitName) (number n : ℕ)
    → bytes_eq word word ≡ true → n < 2 ^ 64 → n ≤ most
    → first_failure (count_tests word no_section bad_number most limit (section_row word number n)) ≡ None
unfolding section_row after_word
section_passes laws word no_section bad_number most limit number n same small few = rw (same, laws.value n small, le-leb n most few) refl

-- ---- all lines

Passes : List Row → Row → Type 0
Passes before row = first_failure (second_line_tests before row) ≡ None

-- a header, a count of tasks and as many task lines, a count of items and as many item lines, and an end pass, where each does
module _ (header counted items_counted last : Row) (rows items : List Row) (whole : length rows ≡ tasks_stated counted)
    (complete : length items ≡ items_stated items_counted)
    (header_ok : first_failure (second_header_tests header) ≡ None) (count_ok : first_failure (task_count_tests counted) ≡ None)
    (rows_ok : (before after : List Row) (row : Row) → rows ≡ before ++ row ∷ after → first_failure (task_tests (extras_of before) row) ≡ None)
    (items_count_ok : first_failure (item_count_tests items_counted) ≡ None)
    (items_ok : (before after : List Row) (row : Row) → items ≡ before ++ row ∷ after
    → first_failure (item_tests (tasks_stated counted) (extras_of rows + item_sizes_of before) (uses_of before) row) ≡ None)
    (last_ok : first_failure (last_tests kinds.Section last) ≡ None) where
  at_task : (before after : List Row) (row : Row) → rows ≡ before ++ row ∷ after → Passes (header ∷ counted ∷ before) row
  unfolding Passes
  at_task before after row e =
      let fewer : ltb (length before) (tasks_stated counted) ≡ true =
      lt-ltb _ _ (omega (arith, whole, ap length e, length-append before (row ∷ after))) in
      rw fewer (rows_ok before after row e)

  at_items_count : Passes (header ∷ counted ∷ rows) items_counted
  unfolding Passes
  at_items_count =
      let past : ltb (length rows) (tasks_stated counted) ≡ false = le-ltb _ _ (omega (arith, whole)) in
      let none_left : drop (tasks_stated counted) rows ≡ [] = drop_all (tasks_stated counted) rows (omega (arith, whole)) in
      rw (past, none_left) items_count_ok

  at_item : (before after : List Row) (row : Row) → items ≡ before ++ row ∷ after
      → Passes (header ∷ counted ∷ (rows ++ items_counted ∷ before)) row
  unfolding Passes
  at_item before after row e =
      let fewer : ltb (length before) (items_stated items_counted) ≡ true =
      lt-ltb _ _ (omega (arith, complete, ap length e, length-append before (row ∷ after))) in
      rw (past_tasks (tasks_stated counted) rows items_counted before row whole, fewer) (items_ok before after row e)

  at_last : Passes (header ∷ counted ∷ (rows ++ items_counted ∷ items)) last
  unfolding Passes
  at_last =
      let past : ltb (length items) (items_stated items_counted) ≡ false = le-ltb _ _ (omega (arith, complete)) in
      let none_left : drop (items_stated items_counted) items ≡ [] = drop_all (items_stated items_counted) items (omega (arith, complete)) in
      rw (past_tasks (tasks_stated counted) rows items_counted items last whole, past, none_left) last_ok

  -- a line after the second
  after_second : (before after : List Row) (row : Row) → rows ++ items_counted ∷ (items ++ last ∷ []) ≡ before ++ row ∷ after
      → Passes (header ∷ counted ∷ before) row
  after_second before after row e = elim (split_of rows (items_counted ∷ (items ++ last ∷ [])) before row after e) [
    | inl here ↦ at_task before here.0 row here.1
    | inr there ↦ subst (λ (bs : List Row). Passes (header ∷ counted ∷ bs) row) (sym there.1) (past_rows there.0 there.2)
  ]
    where
      past_items : (more : List Row) → items ++ last ∷ [] ≡ more ++ row ∷ after → Passes (header ∷ counted ∷ (rows ++ items_counted ∷ more)) row
      past_items more is = elim (last_or_within items last more row after is) [
        | inl end ↦ subst (λ (bs : List Row). Passes (header ∷ counted ∷ (rows ++ items_counted ∷ bs)) row) (sym end.0)
            (subst (λ (r : Row). Passes (header ∷ counted ∷ (rows ++ items_counted ∷ items)) r) (sym end.1) at_last)
        | inr more_items ↦ at_item more more_items.0 row more_items.1
      ]

      past_rows : (more : List Row) → items_counted ∷ (items ++ last ∷ []) ≡ more ++ row ∷ after → Passes (header ∷ counted ∷ (rows ++ more)) row
      past_rows [] is =
          let same : items_counted ≡ row = cc in
          subst (λ (bs : List Row). Passes (header ∷ counted ∷ bs) row) (sym (append-nil rows))
          (subst (λ (r : Row). Passes (header ∷ counted ∷ rows) r) same at_items_count)
      past_rows (m ∷ more) is =
          let same : items_counted ≡ m = cc in
          let tail : items ++ last ∷ [] ≡ more ++ row ∷ after = cc in
          subst (λ (b : Row). Passes (header ∷ counted ∷ (rows ++ b ∷ more)) row) same (past_items more tail)

  all_passed : ArePassed second_format (header ∷ counted ∷ (rows ++ items_counted ∷ (items ++ last ∷ [])))
  unfolding Passes
  all_passed [] after row e = let is : header ≡ row = cc in subst (λ (r : Row). Passes [] r) is header_ok
  all_passed (h ∷ []) after row e =
      let first : header ≡ h = cc in
      let is : counted ≡ row = cc in
      subst (λ (b : Row). Passes (b ∷ []) row) first (subst (λ (r : Row). Passes (header ∷ []) r) is count_ok)
  all_passed (h ∷ c ∷ before) after row e =
      let first : header ≡ h = cc in
      let second : counted ≡ c = cc in
      let tail : rows ++ items_counted ∷ (items ++ last ∷ []) ≡ before ++ row ∷ after = cc in
      let here : Passes (header ∷ counted ∷ before) row = after_second before after row tail in
      subst (λ (b : Row). Passes (b ∷ c ∷ before) row) first (subst (λ (b : Row). Passes (header ∷ b ∷ before) row) second here)

-- ---- the whole file

module _ (laws : AreLaws) (system : SharedTaskSystem) (is : IsSharedSystem system) where
  abbrev n : ℕ
  n = length system.tasks

  -- the rows
  abbrev header : Row
  header = header_row (codes "graph") Two

  abbrev counted : Row
  counted = section_row (codes "tasks") 2 n

  abbrev rows : List Row
  rows = rows_of task_line 3 system.tasks

  abbrev after_rows : ℕ
  after_rows = 3 + length (map task_line system.tasks)

  abbrev items_counted : Row
  items_counted = section_row (codes "items") after_rows (length system.items)

  abbrev items : List Row
  items = rows_of item_line (after_rows + 1) system.items

  abbrev last : Row
  last = record { number = after_rows + 1 + length (map item_line system.items); tokens = end_line }

  rows_are : numbered_from 1 (graph_lines_2 system) ≡ header ∷ counted ∷ (rows ++ items_counted ∷ (items ++ last ∷ []))
  unfolding section_row
  rows_are =
      ap (λ (rs : List Row). header_row (codes "graph") Two ∷ section_row (codes "tasks") 2 n ∷ rs)
      (laws.parts 3 (map task_line system.tasks)
      (section_line (codes "items") (length system.items) ∷ (map item_line system.items ++ end_line ∷ []))
      ∙ ap (λ (rs : List Row). rows_of task_line 3 system.tasks ++ section_row (codes "items") after_rows (length system.items) ∷ rs)
      (laws.parts (after_rows + 1) (map item_line system.items) (end_line ∷ [])))

  counted_is : tasks_stated counted ≡ n
  unfolding section_row
  counted_is = section_is laws (codes "tasks") 2 n refl (omega (arith, is.few_tasks))

  items_counted_is : items_stated items_counted ≡ length system.items
  unfolding section_row
  items_counted_is = section_is laws (codes "items") after_rows (length system.items) refl (omega (arith, is.few_items))

  rows_len : length rows ≡ n
  rows_len = laws.count 3 (map task_line system.tasks) ∙ length-map system.tasks task_line

  items_len : length items ≡ length system.items
  items_len = laws.count (after_rows + 1) (map item_line system.items) ∙ length-map system.items item_line

  tasks_back : All (IsReadBack task_line task_on_row) system.tasks
  tasks_back = All-weaker IsTaskPrintable (IsReadBack task_line task_on_row) (task_back laws) system.tasks (printable system is)

  items_back : All (IsReadBack item_line item_on_row) system.items
  items_back =
      All-weaker (IsSharedItemWithin n) (IsReadBack item_line item_on_row) (λ x. item_back laws n x is.few_tasks) system.items is.items

  -- sums over the first rows are those over the first values
  extras_are : (k : ℕ) (tasks : List Task) → All (IsReadBack task_line task_on_row) tasks
      → extras_of (rows_of task_line k tasks) ≡ sum_by extra_size tasks
  extras_are k tasks back =
      sym (sum_by-map extra_size task_on_row (rows_of task_line k tasks))
      ∙ ap (sum_by extra_size) (read_back task_line task_on_row k tasks back)

  sizes_are : (k : ℕ) (xs : List SharedItem) → All (IsReadBack item_line item_on_row) xs
      → item_sizes_of (rows_of item_line k xs) ≡ sum_by shared_size xs
  sizes_are k xs back =
      sym (sum_by-map shared_size item_on_row (rows_of item_line k xs))
      ∙ ap (sum_by shared_size) (read_back item_line item_on_row k xs back)

  uses_are : (k : ℕ) (xs : List SharedItem) → All (IsReadBack item_line item_on_row) xs
      → uses_of (rows_of item_line k xs) ≡ sum_by reader_count xs
  uses_are k xs back =
      sym (sum_by-map reader_count item_on_row (rows_of item_line k xs))
      ∙ ap (sum_by reader_count) (read_back item_line item_on_row k xs back)

  rows_ok : (before after : List Row) (row : Row) → rows ≡ before ++ row ∷ after → first_failure (task_tests (extras_of before) row) ≡ None
  rows_ok before after row e =
      let split = split_at task_line 3 system.tasks before row after e in
      let fits = All-at IsTaskPrintable split.first split.value split.rest (subst (All IsTaskPrintable) split.xs_are (printable system is)) in
      let back = All-first (IsReadBack task_line task_on_row) split.first (split.value ∷ split.rest)
      (subst (All (IsReadBack task_line task_on_row)) split.xs_are tasks_back) in
      let total : extras_of before ≡ sum_by extra_size split.first = ap extras_of split.before_is ∙ extras_are 3 split.first back in
      let sums : sum_by extra_size system.tasks ≡ sum_by extra_size split.first + sum_by extra_size (split.value ∷ split.rest) =
      ap (sum_by extra_size) split.xs_are ∙ sum_by-append extra_size split.first (split.value ∷ split.rest) in
      let small : extras_of before + split.value.extra ≤ most_total =
      omega (arith, total, sums, sum_by-cons extra_size split.value split.rest, is.total) in
      subst (λ (r : Row). first_failure (task_tests (extras_of before) r) ≡ None) (sym split.row_is)
      (task_passes laws (extras_of before) split.number split.value fits small)

  items_ok : (before after : List Row) (row : Row) → items ≡ before ++ row ∷ after
      → first_failure (item_tests (tasks_stated counted) (extras_of rows + item_sizes_of before) (uses_of before) row) ≡ None
  items_ok before after row e =
      let split = split_at item_line (after_rows + 1) system.items before row after e in
      let within =
      All-at (IsSharedItemWithin n) split.first split.value split.rest (subst (All (IsSharedItemWithin n)) split.xs_are is.items) in
      let back = All-first (IsReadBack item_line item_on_row) split.first (split.value ∷ split.rest)
      (subst (All (IsReadBack item_line item_on_row)) split.xs_are items_back) in
      let sizes : item_sizes_of before ≡ sum_by shared_size split.first =
      ap item_sizes_of split.before_is ∙ sizes_are (after_rows + 1) split.first back in
      let uses : uses_of before ≡ sum_by reader_count split.first =
      ap uses_of split.before_is ∙ uses_are (after_rows + 1) split.first back in
      let all_sizes : sum_by shared_size system.items ≡ sum_by shared_size split.first + sum_by shared_size (split.value ∷ split.rest) =
      ap (sum_by shared_size) split.xs_are ∙ sum_by-append shared_size split.first (split.value ∷ split.rest) in
      let all_uses : sum_by reader_count system.items ≡ sum_by reader_count split.first + sum_by reader_count (split.value ∷ split.rest) =
      ap (sum_by reader_count) split.xs_are ∙ sum_by-append reader_count split.first (split.value ∷ split.rest) in
      let small : extras_of rows + item_sizes_of before + split.value.size ≤ most_total =
      omega (arith, extras_are 3 system.tasks tasks_back, sizes, all_sizes, sum_by-cons shared_size split.value split.rest, is.total) in
      let few : uses_of before + length split.value.readers ≤ most_uses =
      omega (arith, uses, all_uses, sum_by-cons reader_count split.value split.rest, is.few_uses) in
      subst (λ (k : ℕ). first_failure (item_tests k (extras_of rows + item_sizes_of before) (uses_of before) row) ≡ None) (sym counted_is)
      (subst (λ (r : Row). first_failure (item_tests n (extras_of rows + item_sizes_of before) (uses_of before) r) ≡ None) (sym split.row_is)
      (item_passes laws n (extras_of rows + item_sizes_of before) (uses_of before) split.number split.value is.few_tasks within small few))

  second : says_second header ≡ true
  second = rw (header_names (codes "graph") Two refl) refl

  whole : length rows ≡ tasks_stated counted
  whole = rows_len ∙ sym counted_is

  complete : length items ≡ items_stated items_counted
  complete = items_len ∙ sym items_counted_is

  passed : ArePassed second_format (header ∷ counted ∷ (rows ++ items_counted ∷ (items ++ last ∷ [])))
  passed = all_passed header counted items_counted last rows items whole complete (rw second refl)
      (section_passes laws (codes "tasks") kinds.Section kinds.Number most_tasks limits.Tasks 2 n refl
      (omega (arith, is.few_tasks)) is.few_tasks)
      rows_ok
      (section_passes laws (codes "items") kinds.Section kinds.Number most_positions limits.Positions after_rows
      (length system.items) refl (omega (arith, is.few_items)) is.few_items)
      items_ok refl

  ended : is_second_complete (header ∷ counted ∷ (rows ++ items_counted ∷ (items ++ last ∷ []))) ≡ true
  ended =
      let left = drop_at rows (items_counted ∷ (items ++ last ∷ [])) (tasks_stated counted) whole in
      let all : eqb (length (items ++ last ∷ [])) (items_stated items_counted + 1) ≡ true =
      eq-eqb _ _ (omega (arith, complete, length_push items last)) in
      ap are_items_complete left ∙ all

  stated : system_stated (header ∷ counted ∷ (rows ++ items_counted ∷ (items ++ last ∷ []))) ≡ system
  stated =
      stated_is header counted items_counted last rows items whole complete
      ∙ (λ i. record {
        tasks = read_back task_line task_on_row 3 system.tasks tasks_back i;
        items = read_back item_line item_on_row (after_rows + 1) system.items items_back i;
      })

  -- the lines count
  tasks_counted : (tasks : List Task) → All IsTaskPrintable tasks → list_all (is_counted Commented) (map task_line tasks) ≡ true
  tasks_counted [] fit = refl
  tasks_counted (t ∷ ts) fit =
      and_from _ _ (numbers_counted laws Commented t.extra (t.share ∷ t.time ∷ []) (task_small t (All-head IsTaskPrintable t ts fit)))
      (tasks_counted ts (All-tail IsTaskPrintable t ts fit))

  items_are_counted : (xs : List SharedItem) → All (IsSharedItemWithin n) xs → list_all (is_counted Commented) (map item_line xs) ≡ true
  items_are_counted [] fit = refl
  items_are_counted (x ∷ xs) fit =
      and_from _ _ (numbers_counted laws Commented x.size (unwrap_or x.from 0 ∷ x.readers)
      (item_small n x is.few_tasks (All-head (IsSharedItemWithin n) x xs fit)))
      (items_are_counted xs (All-tail (IsSharedItemWithin n) x xs fit))

  lines_counted : list_all (is_counted Commented) (graph_lines_2 system) ≡ true
  lines_counted =
      and_from _ _ refl (and_from _ _ (section_counted laws (codes "tasks") n refl refl (omega (arith, is.few_tasks)))
      (list_all-append (is_counted Commented) (map task_line system.tasks)
      (section_line (codes "items") (length system.items) ∷ (map item_line system.items ++ end_line ∷ []))
      ∙ and_from _ _ (tasks_counted system.tasks (printable system is))
      (and_from _ _ (section_counted laws (codes "items") (length system.items) refl refl (omega (arith, is.few_items)))
      (list_all-append (is_counted Commented) (map item_line system.items) (end_line ∷ [])
      ∙ and_from _ _ (items_are_counted system.items is.items) refl))))

  read : rows_of_bytes Commented (graph_text_2 system) ≡ header ∷ counted ∷ (rows ++ items_counted ∷ (items ++ last ∷ []))
  read = laws.rows Commented (graph_lines_2 system) lines_counted ∙ rows_are

  reads : ReadsItems (graph_text_2 system) system
  reads = record {
    form = record {
      lines = subst (ArePassed second_format) (sym read) passed;
      end = rw (ap is_second_complete read ∙ ended) refl;
    };
    stated = sym (ap system_stated read ∙ stated);
    ordered = is.ordered;
    shares = is.shares;
  }

  pub printed-reads : ReadsSharedGraph (graph_text_2 system) system
  printed-reads =
      let says : is_second (graph_text_2 system) ≡ true = ap (has_first (λ header rows. says_second header)) read ∙ second in
      subst (λ (b : Bool). ReadsAs b (graph_text_2 system) system) (sym says) reads
