-- What a reader that took all lines holds.
use Rattle.std.proofs.Common.{◌≡◌, ℕ, suc, ◌+◌, ◌-◌, ◌<◌, ◌≤◌, true, eqb, List, [], ◌∷◌, ◌++◌}
use Rattle.std.proofs.Common.{length, get_or, map, refl, sym, ap, subst, ◌∙◌, arith}
use Rattle.std.proofs.lemmas.List.{length-map, get_or-map, get_or_append_left, take_at, drop_at, drop_all}
use Rattle.std.proofs.lemmas.Bool.{eqb-true}
use Rattle.mp_text.specs.declared.layout.Layout.TheVariants.{Commented}
use Rattle.mp_text.specs.Text.{Row}
use Rattle.mp_text.specs.Ahead.{rows_of_bytes, past_of_bytes}
use Rattle.graphs.specs.Graph.{TaskGraph}
use Rattle.graph_files.specs.GraphFile.{HasForm, tasks_stated, arcs_stated, task_on_row, arc_of}
use Rattle.graph_files.specs.GraphFile.{graph_stated, are_arcs_complete, is_graph_complete}
use Rattle.graph_files.specs.Reader.{ReaderState, TookArcs, staged_took, took}
use Rattle.graph_files.specs.Stated.{IsStated}
use Rattle.graphs.specs.Judged.{IsPlain}
use Rattle.graph_files.specs.declared.stage.Stage.{Stage}
use Rattle.graph_files.specs.declared.stage.Stage.TheVariants as stages
use Rattle.graph_files.proofs.FormLemmas.{complete_form, well_formed_within}
use Rattle.file_frame.specs.Frame.{line_stating}

abbrev pub held : ReaderState → TaskGraph
held s = record { tasks = s.tasks; arcs = s.arcs }

module _ (header counted arcs_counted last : Row) (rows arcs : List Row) (whole : length rows ≡ tasks_stated counted)
    (complete : length arcs ≡ arcs_stated arcs_counted) where
  stated_is : graph_stated (header ∷ counted ∷ (rows ++ arcs_counted ∷ (arcs ++ last ∷ [])))
      ≡ record { tasks = map task_on_row rows; arcs = map arc_of arcs }
  stated_is =
      let one = take_at rows (arcs_counted ∷ (arcs ++ last ∷ [])) (tasks_stated counted) whole in
      let two = drop_at rows (arcs_counted ∷ (arcs ++ last ∷ [])) (tasks_stated counted) whole in
      let three = take_at arcs (last ∷ []) (arcs_stated arcs_counted) complete in
      rw (one, two, three) refl

  line_is : (v : ℕ) → 1 ≤ v → v ≤ length rows
      → get_or (map (λ (r : Row). r.number) rows) (v - 1) 0
      ≡ line_stating (header ∷ counted ∷ (rows ++ arcs_counted ∷ (arcs ++ last ∷ []))) v
  line_is v some within =
      let rest = arcs_counted ∷ (arcs ++ last ∷ []) in
      let short : v - 1 < length rows = omega (arith, some, within) in
      let row : Row = record { number = 0; tokens = [] } in
      let at : v + 1 ≡ suc (suc (v - 1)) = omega (arith, some) in
      let found : get_or (header ∷ counted ∷ (rows ++ rest)) (v + 1) row ≡ get_or rows (v - 1) row =
      ap (λ (k : ℕ). get_or (header ∷ counted ∷ (rows ++ rest)) k row) at ∙ get_or_append_left rows rest row (v - 1) short in
      get_or-map (λ (r : Row). r.number) rows (v - 1) row 0 short ∙ ap (λ (r : Row). r.number) (sym found)

  whole_stated : (bytes : List ℕ) (s : ReaderState)
      → rows_of_bytes Commented bytes ≡ header ∷ counted ∷ (rows ++ arcs_counted ∷ (arcs ++ last ∷ []))
      → HasForm bytes → TookArcs s counted rows arcs_counted arcs → IsStated bytes (held s) s.lines
  whole_stated bytes s rows_are form taken =
      let here : held s ≡ record { tasks = map task_on_row rows; arcs = map arc_of arcs } =
      λ i. record { tasks = taken.tasks.tasks i; arcs = taken.arcs i } in
      let graph_is : held s ≡ graph_stated (rows_of_bytes Commented bytes) = here ∙ sym (ap graph_stated rows_are ∙ stated_is) in
      let len : length s.tasks ≡ length rows = ap length taken.tasks.tasks ∙ length-map rows task_on_row in
      record {
        form = form;
        graph_is = graph_is;
        lines_are = λ v task. ap (λ (ls : List ℕ). get_or ls (v - 1) 0) taken.tasks.lines ∙ line_is v task.0 (omega (arith, task.1, len))
            ∙ ap (λ (rs : List Row). line_stating rs v) (sym rows_are);
        lines_len = ap length taken.tasks.lines ∙ length-map rows (λ (r : Row). r.number) ∙ sym len;
        plain = subst IsPlain (sym graph_is) (well_formed_within (rows_of_bytes Commented bytes) (past_of_bytes bytes) form);
      }

staged_stated : (bytes : List ℕ) (stage : Stage) (s : ReaderState) → HasForm bytes → staged_took stage s (rows_of_bytes Commented bytes)
    → IsStated bytes (held s) s.lines
staged_stated bytes stages.Header s form taken = absurd (cc (sym (ap is_graph_complete taken.0) ∙ complete_form _ _ form))
staged_stated bytes stages.TaskCount s form taken = absurd (cc (sym (ap is_graph_complete taken.rows_are) ∙ complete_form _ _ form))
staged_stated bytes stages.Tasks s form taken =
    let none = drop_all (tasks_stated taken.counted) taken.task_rows taken.taken.within in
    absurd (cc (sym (ap is_graph_complete taken.rows_are ∙ ap are_arcs_complete none) ∙ complete_form _ _ form))
staged_stated bytes stages.Arcs s form taken =
    let left = drop_at taken.task_rows (taken.arcs_counted ∷ taken.arc_rows) (tasks_stated taken.counted) taken.taken.whole in
    let whole : eqb (length taken.arc_rows) (arcs_stated taken.arcs_counted + 1) ≡ true =
    sym (ap is_graph_complete taken.rows_are ∙ ap are_arcs_complete left) ∙ complete_form _ _ form in
    absurd (let w = taken.taken.few in omega (arith, eqb-true _ _ whole, w))
staged_stated bytes stages.Ended s form taken =
    whole_stated taken.header taken.counted taken.arcs_counted taken.last taken.task_rows taken.arc_rows taken.taken.whole taken.complete
    bytes s taken.rows_are form taken.taken

pub took_stated : (bytes : List ℕ) (s : ReaderState) → HasForm bytes
    → took s (rows_of_bytes Commented bytes) → IsStated bytes (held s) s.lines
took_stated bytes s form taken = staged_stated bytes s.stage s form taken
