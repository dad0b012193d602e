-- What well-formed lines of a graph file say of the graph that they state.
use Rattle.std.proofs.Common.{◌≡◌, ℕ, ◌+◌, ◌-◌, ◌<◌, ◌≤◌, true, false, not, ◌&&◌, eqb, ltb, leb, List, [], ◌∷◌, ◌++◌, length}
use Rattle.std.proofs.Common.{get_or, take, drop, map, refl, sym, ap, subst, ◌∙◌, arith, None, append_assoc, inl, inr}
use Rattle.std.specs.Prelude.{◌||◌}
use Rattle.std.specs.List.{All}
use Rattle.std.proofs.lemmas.List.{length-map, get_or-map, take_all, drop_more, take-append-drop}
use Rattle.std.proofs.lemmas.List.{length-take-le, take_at, drop_at, length-drop}
use Rattle.std.proofs.lemmas.List.Sums.{sum_by_more}
use Rattle.std.proofs.lemmas.Bool.{leb-true, eqb-true, eqb-false, lt-ltb, or_cases, cases_lt}
use Rattle.limits.specs.Limits.{most_tasks, most_arcs, most_total}
use Rattle.mp_text.specs.Text.{Row}
use Rattle.mp_text.specs.Grammar.{first_failure, ArePassed, IsWellFormed}
use Rattle.mp_system.specs.declared.system.Task.{Task}
use Rattle.mp_system.specs.System.{IsTaskWithin, extra_size}
use Rattle.graphs.specs.declared.arc.Arc.{Arc}
use Rattle.graphs.specs.Graph.{TaskGraph, IsArcWithin, arc_size}
use Rattle.graph_files.specs.GraphFile.{graph_format, tasks_stated, arcs_stated, task_tests, task_on_row, extras_of, arc_tests}
use Rattle.graph_files.specs.GraphFile.{arc_of, sizes_of, are_arcs_complete, is_graph_complete, arc_part_tests, graph_stated}
use Rattle.graphs.specs.Judged.{IsPlain}
use Rattle.graph_files.proofs.ReaderLaws.{past_tasks}
use Rattle.lists.proofs.Bools.{false_of_not, both_true, positive}
use Rattle.lists.proofs.Lists.{ends, sum_by-map}
use Rattle.file_frame.proofs.TestLemmas.{passes}

-- ---- tests that all hold

-- what the tests of a task line say of its task
pub record IsTaskOn (total : ℕ) (task : Task) : Type 0 where
  pub within : IsTaskWithin task
  pub sums : total + extra_size task ≤ most_total

pub task_passed : (total : ℕ) (row : Row) → first_failure (task_tests total row) ≡ None → IsTaskOn total (task_on_row row)
task_passed total row none =
    let task = task_on_row row in
    let one = passes _ _ _ none in
    let two = passes _ _ _ one.1 in
    let three = passes _ _ _ two.1 in
    let four = passes _ _ _ three.1 in
    record {
      within = record { extra = leb-true _ _ two.0; time = (positive task.time (both_true _ _ one.0).1, leb-true _ _ three.0) };
      sums = leb-true _ _ four.0;
    }

-- what the tests of an arc line say of its arc
record IsArcOn (n total : ℕ) (arc : Arc) : Type 0 where
  pub within : IsArcWithin n arc
  pub sums : total + arc_size arc ≤ most_total

ends_apart : (from to : ℕ) → (not (eqb from to) || eqb from 0) ≡ true → from ≡ to → from ≡ 0
ends_apart from to e same = elim (or_cases (not (eqb from to)) (eqb from 0) e) [
  | inl other ↦ absurd (eqb-false from to (false_of_not (eqb from to) other) same)
  | inr none ↦ eqb-true from 0 none
]

arc_passed : (n total : ℕ) (row : Row) → first_failure (arc_tests n total row) ≡ None → IsArcOn n total (arc_of row)
arc_passed n total row none =
    let arc = arc_of row in
    let one = passes _ _ _ none in
    let two = passes _ _ _ one.1 in
    let three = passes _ _ _ two.1 in
    let four = passes _ _ _ three.1 in
    let ends = both_true (leb arc.from n && leb arc.to n) (not (eqb arc.from arc.to) || eqb arc.from 0) two.0 in
    let small = both_true (leb arc.from n) (leb arc.to n) ends.0 in
    record {
      within = record {
        from = leb-true _ _ small.0;
        to = leb-true _ _ small.1;
        apart = ends_apart arc.from arc.to ends.1;
        size = leb-true _ _ three.0;
      };
      sums = leb-true _ _ four.0;
    }

-- ---- the parts of a well-formed file

-- a header, a count of tasks and as many task lines, a count of arcs and as many arc lines, and one more line
pub record AreParts (all : List Row) : Type 0 where
  pub header : Row
  pub counted : Row
  pub rows : List Row
  pub arcs_counted : Row
  pub arcs : List Row
  pub last : Row
  pub all_are : all ≡ header ∷ counted ∷ (rows ++ arcs_counted ∷ (arcs ++ last ∷ []))
  pub whole : length rows ≡ tasks_stated counted
  pub complete : length arcs ≡ arcs_stated arcs_counted

pub complete_form : (rows : List Row) (past : ℕ) → IsWellFormed graph_format rows past → is_graph_complete rows ≡ true
complete_form rows past form = (passes _ _ _ form.end).0

-- the lines after the tasks
record AreArcs (left : List Row) : Type 0 where
  counted : Row
  arcs : List Row
  last : Row
  left_are : left ≡ counted ∷ (arcs ++ last ∷ [])
  complete : length arcs ≡ arcs_stated counted

arcs_of : (left : List Row) → are_arcs_complete left ≡ true → AreArcs left
arcs_of [] e = absurd cc
arcs_of (counted ∷ rows) e =
    let split = ends (arcs_stated counted) rows (eqb-true _ _ e) in
    record {
      counted = counted;
      arcs = split.0;
      last = split.1;
      left_are = ap (λ (zs : List Row). counted ∷ zs) split.2.0;
      complete = split.2.1;
    }

pub parts_of : (all : List Row) → is_graph_complete all ≡ true → AreParts all
parts_of [] e = absurd cc
parts_of (header ∷ []) e = absurd cc
parts_of (header ∷ counted ∷ rows) e =
    let n = tasks_stated counted in
    let arcs = arcs_of (drop n rows) e in
    let left : 1 ≤ length (drop n rows) = omega (arith, ap length arcs.left_are) in
    let long : n ≤ length rows = omega (arith, length-drop n rows, left) in
    record {
      header = header;
      counted = counted;
      rows = take n rows;
      arcs_counted = arcs.counted;
      arcs = arcs.arcs;
      last = arcs.last;
      all_are = ap (λ (zs : List Row). header ∷ counted ∷ zs)
          (sym (take-append-drop n rows) ∙ ap (λ (zs : List Row). take n rows ++ zs) arcs.left_are);
      whole = length-take-le n rows long;
      complete = arcs.complete;
    }

module _ (header counted arcs_counted last : Row) (rows arcs : List Row) (whole : length rows ≡ tasks_stated counted)
    (complete : length arcs ≡ arcs_stated arcs_counted)
    (passed : ArePassed graph_format (header ∷ counted ∷ (rows ++ arcs_counted ∷ (arcs ++ last ∷ [])))) where
  tail : List Row
  tail = arcs_counted ∷ (arcs ++ last ∷ [])

  tasks_few : tasks_stated counted ≤ most_tasks
  tasks_few =
      let none = passed (header ∷ []) (rows ++ arcs_counted ∷ (arcs ++ last ∷ [])) counted refl in
      let one = passes _ _ _ none in
      let two = passes _ _ _ one.1 in
      let three = passes _ _ _ two.1 in
      leb-true _ _ three.0

  -- a list cut before a place
  cut : {X : Type 0} (xs : List X) (i : ℕ) (d : X) → i < length xs → xs ≡ take i xs ++ get_or xs i d ∷ drop (i + 1) xs
  cut {X} xs i d lt = sym (take-append-drop i xs) ∙ ap (λ (ys : List X). take i xs ++ ys) (drop_more xs i d lt)

  task_at_passed : (i : ℕ) (d : Row) → i < length rows → IsTaskOn (extras_of (take i rows)) (task_on_row (get_or rows i d))
  task_at_passed i d lt =
      let row = get_or rows i d in
      let split :
      rows ++ arcs_counted ∷ (arcs ++ last ∷ []) ≡ take i rows ++ row ∷ (drop (i + 1) rows ++ arcs_counted ∷ (arcs ++ last ∷ [])) =
      ap (λ (xs : List Row). xs ++ arcs_counted ∷ (arcs ++ last ∷ [])) (cut rows i d lt)
      ∙ append_assoc (take i rows) (row ∷ drop (i + 1) rows) (arcs_counted ∷ (arcs ++ last ∷ [])) in
      let none = passed (header ∷ counted ∷ take i rows) (drop (i + 1) rows ++ arcs_counted ∷ (arcs ++ last ∷ [])) row
      (ap (λ (xs : List Row). header ∷ counted ∷ xs) split) in
      let fewer : ltb (length (take i rows)) (tasks_stated counted) ≡ true =
      lt-ltb _ _ (omega (arith, length-take-le i rows (omega arith))) in
      task_passed _ row (rw fewer at none)

  arcs_few : arcs_stated arcs_counted ≤ most_arcs
  arcs_few =
      let none = passed (header ∷ counted ∷ rows) (arcs ++ last ∷ []) arcs_counted refl in
      let past : ltb (length rows) (tasks_stated counted) ≡ false = grind arith in
      let nothing : drop (tasks_stated counted) rows ≡ [] = drop_past in
      let tests : first_failure (arc_part_tests (tasks_stated counted) (extras_of (take (tasks_stated counted) rows)) [] arcs_counted)
      ≡ None = rw (past, nothing) at none in
      let one = passes _ _ _ tests in
      let two = passes _ _ _ one.1 in
      let three = passes _ _ _ two.1 in
      leb-true _ _ three.0
    where
      drop_past : drop (tasks_stated counted) rows ≡ []
      drop_past = ap (λ (n : ℕ). drop n rows) (sym whole) ∙ drop_own rows where
        drop_own : (xs : List Row) → drop (length xs) xs ≡ []
        drop_own [] = refl
        drop_own (x ∷ xs) = drop_own xs

  arc_at_passed : (i : ℕ) (d : Row) → i < length arcs
      → IsArcOn (tasks_stated counted) (extras_of rows + sizes_of (take i arcs)) (arc_of (get_or arcs i d))
  arc_at_passed i d lt =
      let row = get_or arcs i d in
      let before = rows ++ arcs_counted ∷ take i arcs in
      let inner : arcs ++ last ∷ [] ≡ take i arcs ++ row ∷ (drop (i + 1) arcs ++ last ∷ []) =
      ap (λ (xs : List Row). xs ++ last ∷ []) (cut arcs i d lt) ∙ append_assoc (take i arcs) (row ∷ drop (i + 1) arcs) (last ∷ []) in
      let split : rows ++ arcs_counted ∷ (arcs ++ last ∷ []) ≡ before ++ row ∷ (drop (i + 1) arcs ++ last ∷ []) =
      ap (λ (xs : List Row). rows ++ arcs_counted ∷ xs) inner
      ∙ sym (append_assoc rows (arcs_counted ∷ take i arcs) (row ∷ (drop (i + 1) arcs ++ last ∷ []))) in
      let none =
      passed (header ∷ counted ∷ before) (drop (i + 1) arcs ++ last ∷ []) row (ap (λ (xs : List Row). header ∷ counted ∷ xs) split) in
      let fewer : ltb (length (take i arcs)) (arcs_stated arcs_counted) ≡ true =
      lt-ltb _ _ (omega (arith, length-take-le i arcs (omega arith))) in
      let tests : first_failure (arc_part_tests (tasks_stated counted) (extras_of rows) (arcs_counted ∷ take i arcs) row) ≡ None =
      sym (ap first_failure (past_tasks (tasks_stated counted) rows arcs_counted (take i arcs) row whole)) ∙ none in
      arc_passed _ _ row (rw fewer at tests)

  graph : TaskGraph
  graph = record { tasks = map task_on_row rows; arcs = map arc_of arcs }

  stated_is : graph_stated (header ∷ counted ∷ (rows ++ arcs_counted ∷ (arcs ++ last ∷ []))) ≡ graph
  unfolding graph
  stated_is =
      let n = tasks_stated counted in
      let one = take_at rows (arcs_counted ∷ (arcs ++ last ∷ [])) n whole in
      let two = drop_at rows (arcs_counted ∷ (arcs ++ last ∷ [])) n whole in
      let three = take_at arcs (last ∷ []) (arcs_stated arcs_counted) complete in
      rw (one, two, three) refl

  tasks_within : All IsTaskWithin (map task_on_row rows)
  tasks_within i d lt =
      let short : i < length rows = omega (arith, length-map rows task_on_row, lt) in
      let row : Row = record { number = 0; tokens = [] } in
      rw (get_or-map task_on_row rows i row d short) (task_at_passed i row short).within

  arcs_within : All (IsArcWithin (length (map task_on_row rows))) (map arc_of arcs)
  arcs_within i d lt =
      let short : i < length arcs = omega (arith, length-map arcs arc_of, lt) in
      let row : Row = record { number = 0; tokens = [] } in
      let n : tasks_stated counted ≡ length (map task_on_row rows) = omega (arith, whole, length-map rows task_on_row) in
      rw (get_or-map arc_of arcs i row d short)
      (subst (λ (k : ℕ). IsArcWithin k (arc_of (get_or arcs i row))) n (arc_at_passed i row short).within)

  -- the sum up to the last of the lines is within the total
  extras_within : extras_of rows ≤ most_total
  extras_within = elim (cases_lt 0 (length rows)) [
    | inr none ↦ go rows none
    | inl some ↦ (let row : Row = record { number = 0; tokens = [] } in
        let i = length rows - 1 in
        let on = task_at_passed (length rows - 1) row (omega arith) in
        let more = sum_by_more (λ (r : Row). extra_size (task_on_row r)) rows (length rows - 1) row (omega arith) in
        let all : take (length rows - 1 + 1) rows ≡ rows = take_all (length rows - 1 + 1) rows (omega arith) in
        omega (arith, on.sums, more, ap extras_of all))
  ]
    where
      go : (xs : List Row) → length xs ≤ 0 → extras_of xs ≤ most_total
      go [] none = omega arith
      go (x ∷ xs) none = absurd (omega arith)

  sums_within : extras_of rows + sizes_of arcs ≤ most_total
  sums_within = elim (cases_lt 0 (length arcs)) [
    | inr none ↦ go arcs none
    | inl some ↦ (let row : Row = record { number = 0; tokens = [] } in
        let on = arc_at_passed (length arcs - 1) row (omega arith) in
        let more = sum_by_more (λ (r : Row). arc_size (arc_of r)) arcs (length arcs - 1) row (omega arith) in
        let all : take (length arcs - 1 + 1) arcs ≡ arcs = take_all (length arcs - 1 + 1) arcs (omega arith) in
        omega (arith, on.sums, more, ap sizes_of all))
  ]
    where
      go : (xs : List Row) → length xs ≤ 0 → extras_of rows + sizes_of xs ≤ most_total
      go [] none = omega (arith, extras_within)
      go (x ∷ xs) none = absurd (omega arith)

  pub within : IsPlain (graph_stated (header ∷ counted ∷ (rows ++ arcs_counted ∷ (arcs ++ last ∷ []))))
  unfolding graph
  within = rw stated_is (record {
    few_tasks = omega (arith, length-map rows task_on_row, whole, tasks_few);
    few_arcs = omega (arith, length-map arcs arc_of, complete, arcs_few);
    tasks = tasks_within;
    arcs = arcs_within;
    total = omega (arith, sum_by-map extra_size task_on_row rows, sum_by-map arc_size arc_of arcs, sums_within);
  })

pub well_formed_within : (rows : List Row) (past : ℕ) → IsWellFormed graph_format rows past → IsPlain (graph_stated rows)
well_formed_within rows past form =
    let p = parts_of rows (complete_form rows past form) in
    subst (λ (rs : List Row). IsPlain (graph_stated rs)) (sym p.all_are)
    (within p.header p.counted p.arcs_counted p.last p.rows p.arcs p.whole p.complete (subst (ArePassed graph_format) p.all_are form.lines))
