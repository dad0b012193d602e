-- What well-formed lines of a graph file of version 2 say of the system that they state.
use Rattle.std.proofs.Common.{◌≡◌, ℕ, ◌+◌, ◌-◌, ◌<◌, ◌≤◌, true, false, ◌&&◌, ltb, List, [], ◌∷◌, ◌++◌, length}
use Rattle.std.proofs.Common.{get_or, take, drop, map, refl, sym, ap, subst, ◌∙◌, arith, Option, None, append_assoc, inl, inr}
use Rattle.std.specs.List.{All, list_all}
use Rattle.std.specs.Option.{ForSome}
use Rattle.std.proofs.lemmas.List.{length-map, get_or-map, take_all, drop_more, take-append-drop}
use Rattle.std.proofs.lemmas.List.{length-take-le, take_at, drop_at, length-drop}
use Rattle.std.proofs.lemmas.List.Sums.{sum_by_more}
use Rattle.std.proofs.lemmas.Bool.{leb-true, eqb-true, lt-ltb, cases_lt}
use Rattle.limits.specs.Limits.{most_tasks, most_positions, most_total, most_uses}
use Rattle.mp_text.specs.Text.{Row, numbers_of}
use Rattle.mp_text.specs.Grammar.{first_failure, ArePassed, IsWellFormed}
use Rattle.mp_system.specs.System.{IsTaskWithin, extra_size}
use Rattle.graphs.specs.Graph.{IsAmong}
use Rattle.shared_systems.specs.Shared.{SharedTaskSystem, SharedItem}
use Rattle.shared_systems.specs.Bounds.{IsSharedItemWithin, shared_size, reader_count}
use Rattle.shared_systems.specs.Judged.{IsPlainShared}
use Rattle.graph_files.specs.GraphFile.{tasks_stated, task_on_row, extras_of}
use Rattle.graph_files.proofs.FormLemmas.{IsTaskOn, task_passed}
use Rattle.shared_graph_files.specs.SharedGraphFile.{second_format, items_stated, item_tests, item_on_row, item_sizes_of, uses_of}
use Rattle.shared_graph_files.specs.SharedGraphFile.{are_items_complete, is_second_complete, item_part_tests, system_stated}
use Rattle.shared_graph_files.specs.SharedGraphFile.{is_producer, is_reader, are_rising}
use Rattle.shared_graph_files.proofs.ItemLemmas.{stated_from, producer_among, are_among, are_apart, increasing}
use Rattle.shared_graph_files.proofs.ReaderLaws.{past_tasks}
use Rattle.lists.proofs.Bools.{both_true}
use Rattle.lists.proofs.Lists.{ends, sum_by-map}
use Rattle.file_frame.proofs.TestLemmas.{passes}

-- ---- tests that all hold

-- what the tests of an item line say of its item
record IsItemOn (n total uses : ℕ) (item : SharedItem) : Type 0 where
  pub within : IsSharedItemWithin n item
  pub sums : total + shared_size item ≤ most_total
  pub readers : uses + reader_count item ≤ most_uses

item_passed : (n total uses : ℕ) (row : Row) → first_failure (item_tests n total uses row) ≡ None
    → IsItemOn n total uses (item_on_row row)
item_passed n total uses row none =
    let item = item_on_row row in
    let one = passes _ _ _ none in
    let two = passes _ _ _ one.1 in
    let three = passes _ _ _ two.1 in
    let four = passes _ _ _ three.1 in
    let five = passes _ _ _ four.1 in
    let ends = both_true (is_producer n item.from) (list_all (is_reader n item.from) item.readers && are_rising item.readers) two.0 in
    let readers = both_true (list_all (is_reader n item.from) item.readers) (are_rising item.readers) ends.1 in
    let from = stated_from (record { size = 0; from = None; readers = [] }) refl (numbers_of row.tokens) in
    record {
      within = record {
        producer = subst (λ (f : Option ℕ). ForSome f (IsAmong n)) (sym from.1)
            (producer_among n from.0 (subst (λ (f : Option ℕ). is_producer n f ≡ true) from.1 ends.0));
        readers = are_among n item.from item.readers readers.0;
        apart = are_apart n item.from item.readers readers.0;
        rising = increasing item.readers readers.1;
        size = leb-true _ _ three.0;
      };
      sums = leb-true _ _ four.0;
      readers = leb-true _ _ five.0;
    }

-- ---- the parts of a well-formed file

-- a header, a count of tasks and as many task lines, a count of items and as many item lines, and one more line
pub record AreParts (all : List Row) : Type 0 where
  pub header : Row
  pub counted : Row
  pub rows : List Row
  pub items_counted : Row
  pub items : List Row
  pub last : Row
  pub all_are : all ≡ header ∷ counted ∷ (rows ++ items_counted ∷ (items ++ last ∷ []))
  pub whole : length rows ≡ tasks_stated counted
  pub complete : length items ≡ items_stated items_counted

pub complete_form : (rows : List Row) (past : ℕ) → IsWellFormed second_format rows past → is_second_complete rows ≡ true
complete_form rows past form = (passes _ _ _ form.end).0

-- the lines after the tasks
record AreItems (left : List Row) : Type 0 where
  counted : Row
  items : List Row
  last : Row
  left_are : left ≡ counted ∷ (items ++ last ∷ [])
  complete : length items ≡ items_stated counted

items_of : (left : List Row) → are_items_complete left ≡ true → AreItems left
items_of [] e = absurd cc
items_of (counted ∷ rows) e =
    let split = ends (items_stated counted) rows (eqb-true _ _ e) in
    record {
      counted = counted;
      items = split.0;
      last = split.1;
      left_are = ap (λ (zs : List Row). counted ∷ zs) split.2.0;
      complete = split.2.1;
    }

pub parts_of : (all : List Row) → is_second_complete all ≡ true → AreParts all
parts_of [] e = absurd cc
parts_of (header ∷ []) e = absurd cc
parts_of (header ∷ counted ∷ rows) e =
    let n = tasks_stated counted in
    let items = items_of (drop n rows) e in
    let left : 1 ≤ length (drop n rows) = omega (arith, ap length items.left_are) in
    let long : n ≤ length rows = omega (arith, length-drop n rows, left) in
    record {
      header = header;
      counted = counted;
      rows = take n rows;
      items_counted = items.counted;
      items = items.items;
      last = items.last;
      all_are = ap (λ (zs : List Row). header ∷ counted ∷ zs)
          (sym (take-append-drop n rows) ∙ ap (λ (zs : List Row). take n rows ++ zs) items.left_are);
      whole = length-take-le n rows long;
      complete = items.complete;
    }

module _ (header counted items_counted last : Row) (rows items : List Row) (whole : length rows ≡ tasks_stated counted)
    (complete : length items ≡ items_stated items_counted)
    (passed : ArePassed second_format (header ∷ counted ∷ (rows ++ items_counted ∷ (items ++ last ∷ [])))) where
  tail : List Row
  tail = items_counted ∷ (items ++ last ∷ [])

  tasks_few : tasks_stated counted ≤ most_tasks
  tasks_few =
      let none = passed (header ∷ []) (rows ++ items_counted ∷ (items ++ last ∷ [])) counted refl in
      let one = passes _ _ _ none in
      let two = passes _ _ _ one.1 in
      let three = passes _ _ _ two.1 in
      leb-true _ _ three.0

  -- a list cut before a place
  cut : {X : Type 0} (xs : List X) (i : ℕ) (d : X) → i < length xs → xs ≡ take i xs ++ get_or xs i d ∷ drop (i + 1) xs
  cut {X} xs i d lt = sym (take-append-drop i xs) ∙ ap (λ (ys : List X). take i xs ++ ys) (drop_more xs i d lt)

  task_at_passed : (i : ℕ) (d : Row) → i < length rows → IsTaskOn (extras_of (take i rows)) (task_on_row (get_or rows i d))
  task_at_passed i d lt =
      let row = get_or rows i d in
      let split :
      rows ++ items_counted ∷ (items ++ last ∷ []) ≡ take i rows ++ row ∷ (drop (i + 1) rows ++ items_counted ∷ (items ++ last ∷ [])) =
      ap (λ (xs : List Row). xs ++ items_counted ∷ (items ++ last ∷ [])) (cut rows i d lt)
      ∙ append_assoc (take i rows) (row ∷ drop (i + 1) rows) (items_counted ∷ (items ++ last ∷ [])) in
      let none = passed (header ∷ counted ∷ take i rows) (drop (i + 1) rows ++ items_counted ∷ (items ++ last ∷ [])) row
      (ap (λ (xs : List Row). header ∷ counted ∷ xs) split) in
      let fewer : ltb (length (take i rows)) (tasks_stated counted) ≡ true =
      lt-ltb _ _ (omega (arith, length-take-le i rows (omega arith))) in
      task_passed _ row (rw fewer at none)

  items_few : items_stated items_counted ≤ most_positions
  items_few =
      let none = passed (header ∷ counted ∷ rows) (items ++ last ∷ []) items_counted refl in
      let past : ltb (length rows) (tasks_stated counted) ≡ false = grind arith in
      let nothing : drop (tasks_stated counted) rows ≡ [] = drop_past in
      let tests : first_failure (item_part_tests (tasks_stated counted) (extras_of (take (tasks_stated counted) rows)) [] items_counted)
      ≡ None = rw (past, nothing) at none in
      let one = passes _ _ _ tests in
      let two = passes _ _ _ one.1 in
      let three = passes _ _ _ two.1 in
      leb-true _ _ three.0
    where
      drop_past : drop (tasks_stated counted) rows ≡ []
      drop_past = ap (λ (n : ℕ). drop n rows) (sym whole) ∙ drop_own rows where
        drop_own : (xs : List Row) → drop (length xs) xs ≡ []
        drop_own [] = refl
        drop_own (x ∷ xs) = drop_own xs

  item_at_passed : (i : ℕ) (d : Row) → i < length items
      → IsItemOn (tasks_stated counted) (extras_of rows + item_sizes_of (take i items)) (uses_of (take i items))
      (item_on_row (get_or items i d))
  item_at_passed i d lt =
      let row = get_or items i d in
      let before = rows ++ items_counted ∷ take i items in
      let inner : items ++ last ∷ [] ≡ take i items ++ row ∷ (drop (i + 1) items ++ last ∷ []) =
      ap (λ (xs : List Row). xs ++ last ∷ []) (cut items i d lt) ∙ append_assoc (take i items) (row ∷ drop (i + 1) items) (last ∷ []) in
      let split : rows ++ items_counted ∷ (items ++ last ∷ []) ≡ before ++ row ∷ (drop (i + 1) items ++ last ∷ []) =
      ap (λ (xs : List Row). rows ++ items_counted ∷ xs) inner
      ∙ sym (append_assoc rows (items_counted ∷ take i items) (row ∷ (drop (i + 1) items ++ last ∷ []))) in
      let none =
      passed (header ∷ counted ∷ before) (drop (i + 1) items ++ last ∷ []) row (ap (λ (xs : List Row). header ∷ counted ∷ xs) split) in
      let fewer : ltb (length (take i items)) (items_stated items_counted) ≡ true =
      lt-ltb _ _ (omega (arith, length-take-le i items (omega arith))) in
      let tests : first_failure (item_part_tests (tasks_stated counted) (extras_of rows) (items_counted ∷ take i items) row) ≡ None =
      sym (ap first_failure (past_tasks (tasks_stated counted) rows items_counted (take i items) row whole)) ∙ none in
      item_passed _ _ _ row (rw fewer at tests)

  system : SharedTaskSystem
  system = record { tasks = map task_on_row rows; items = map item_on_row items }

  stated_is : system_stated (header ∷ counted ∷ (rows ++ items_counted ∷ (items ++ last ∷ []))) ≡ system
  unfolding system
  stated_is =
      let n = tasks_stated counted in
      let one = take_at rows (items_counted ∷ (items ++ last ∷ [])) n whole in
      let two = drop_at rows (items_counted ∷ (items ++ last ∷ [])) n whole in
      let three = take_at items (last ∷ []) (items_stated items_counted) complete in
      rw (one, two, three) refl

  tasks_within : All IsTaskWithin (map task_on_row rows)
  tasks_within i d lt =
      let short : i < length rows = omega (arith, length-map rows task_on_row, lt) in
      let row : Row = record { number = 0; tokens = [] } in
      rw (get_or-map task_on_row rows i row d short) (task_at_passed i row short).within

  items_within : All (IsSharedItemWithin (length (map task_on_row rows))) (map item_on_row items)
  items_within i d lt =
      let short : i < length items = omega (arith, length-map items item_on_row, lt) in
      let row : Row = record { number = 0; tokens = [] } in
      let n : tasks_stated counted ≡ length (map task_on_row rows) = omega (arith, whole, length-map rows task_on_row) in
      rw (get_or-map item_on_row items i row d short)
      (subst (λ (k : ℕ). IsSharedItemWithin k (item_on_row (get_or items i row))) n (item_at_passed i row short).within)

  -- the sum up to the last of the lines is within the total
  extras_within : extras_of rows ≤ most_total
  extras_within = elim (cases_lt 0 (length rows)) [
    | inr none ↦ go rows none
    | inl some ↦ (let row : Row = record { number = 0; tokens = [] } in
        let i = length rows - 1 in
        let on = task_at_passed (length rows - 1) row (omega arith) in
        let more = sum_by_more (λ (r : Row). extra_size (task_on_row r)) rows (length rows - 1) row (omega arith) in
        let all : take (length rows - 1 + 1) rows ≡ rows = take_all (length rows - 1 + 1) rows (omega arith) in
        omega (arith, on.sums, more, ap extras_of all))
  ]
    where
      go : (xs : List Row) → length xs ≤ 0 → extras_of xs ≤ most_total
      go [] none = omega arith
      go (x ∷ xs) none = absurd (omega arith)

  sums_within : extras_of rows + item_sizes_of items ≤ most_total
  sums_within = elim (cases_lt 0 (length items)) [
    | inr none ↦ go items none
    | inl some ↦ (let row : Row = record { number = 0; tokens = [] } in
        let on = item_at_passed (length items - 1) row (omega arith) in
        let more = sum_by_more (λ (r : Row). shared_size (item_on_row r)) items (length items - 1) row (omega arith) in
        let all : take (length items - 1 + 1) items ≡ items = take_all (length items - 1 + 1) items (omega arith) in
        omega (arith, on.sums, more, ap item_sizes_of all))
  ]
    where
      go : (xs : List Row) → length xs ≤ 0 → extras_of rows + item_sizes_of xs ≤ most_total
      go [] none = omega (arith, extras_within)
      go (x ∷ xs) none = absurd (omega arith)

  uses_within : uses_of items ≤ most_uses
  uses_within = elim (cases_lt 0 (length items)) [
    | inr none ↦ go items none
    | inl some ↦ (let row : Row = record { number = 0; tokens = [] } in
        let on = item_at_passed (length items - 1) row (omega arith) in
        let more = sum_by_more (λ (r : Row). reader_count (item_on_row r)) items (length items - 1) row (omega arith) in
        let all : take (length items - 1 + 1) items ≡ items = take_all (length items - 1 + 1) items (omega arith) in
        omega (arith, on.readers, more, ap uses_of all))
  ]
    where
      go : (xs : List Row) → length xs ≤ 0 → uses_of xs ≤ most_uses
      go [] none = omega arith
      go (x ∷ xs) none = absurd (omega arith)

  pub within : IsPlainShared (system_stated (header ∷ counted ∷ (rows ++ items_counted ∷ (items ++ last ∷ []))))
  unfolding system
  within = rw stated_is (record {
    few_tasks = omega (arith, length-map rows task_on_row, whole, tasks_few);
    few_items = omega (arith, length-map items item_on_row, complete, items_few);
    few_uses = omega (arith, sum_by-map reader_count item_on_row items, uses_within);
    tasks = tasks_within;
    items = items_within;
    total = omega (arith, sum_by-map extra_size task_on_row rows, sum_by-map shared_size item_on_row items, sums_within);
  })

pub well_formed_within : (rows : List Row) (past : ℕ) → IsWellFormed second_format rows past → IsPlainShared (system_stated rows)
well_formed_within rows past form =
    let p = parts_of rows (complete_form rows past form) in
    subst (λ (rs : List Row). IsPlainShared (system_stated rs)) (sym p.all_are)
    (within p.header p.counted p.items_counted p.last p.rows p.items p.whole p.complete (subst (ArePassed second_format) p.all_are form.lines))
