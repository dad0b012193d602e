-- What a reader that took all lines holds.
use Rattle.std.proofs.Common.{◌≡◌, ℕ, ◌+◌, true, eqb, List, [], ◌∷◌, ◌++◌, length, map, refl, sym, ap, subst, ◌∙◌, arith}
use Rattle.std.proofs.lemmas.List.{take_at, drop_at, drop_all}
use Rattle.std.proofs.lemmas.Bool.{eqb-true}
use Rattle.mp_text.specs.declared.layout.Layout.TheVariants.{Commented}
use Rattle.mp_text.specs.Text.{Row}
use Rattle.mp_text.specs.Ahead.{rows_of_bytes, past_of_bytes}
use Rattle.shared_systems.specs.Shared.{SharedTaskSystem}
use Rattle.shared_systems.specs.Judged.{IsPlainShared}
use Rattle.graph_files.specs.GraphFile.{tasks_stated, task_on_row}
use Rattle.shared_graph_files.specs.SharedGraphFile.{HasSecondForm, items_stated, item_on_row, system_stated, are_items_complete}
use Rattle.shared_graph_files.specs.SharedGraphFile.{is_second_complete}
use Rattle.shared_graph_files.specs.Reader.{ReaderState, TookItems, staged_took, took}
use Rattle.shared_graph_files.specs.Stated.{IsStated}
use Rattle.shared_graph_files.specs.declared.stage.Stage.{Stage}
use Rattle.shared_graph_files.specs.declared.stage.Stage.TheVariants as stages
use Rattle.shared_graph_files.proofs.FormLemmas.{complete_form, well_formed_within}

abbrev pub held : ReaderState → SharedTaskSystem
held s = record { tasks = s.tasks; items = s.items.items }

module _ (header counted items_counted last : Row) (rows items : List Row) (whole : length rows ≡ tasks_stated counted)
    (complete : length items ≡ items_stated items_counted) where
  pub stated_is : system_stated (header ∷ counted ∷ (rows ++ items_counted ∷ (items ++ last ∷ [])))
      ≡ record { tasks = map task_on_row rows; items = map item_on_row items }
  stated_is =
      let one = take_at rows (items_counted ∷ (items ++ last ∷ [])) (tasks_stated counted) whole in
      let two = drop_at rows (items_counted ∷ (items ++ last ∷ [])) (tasks_stated counted) whole in
      let three = take_at items (last ∷ []) (items_stated items_counted) complete in
      rw (one, two, three) refl

  whole_stated : (bytes : List ℕ) (s : ReaderState)
      → rows_of_bytes Commented bytes ≡ header ∷ counted ∷ (rows ++ items_counted ∷ (items ++ last ∷ []))
      → HasSecondForm bytes → TookItems s counted rows items_counted items → IsStated bytes (held s)
  whole_stated bytes s rows_are form taken =
      let here : held s ≡ record { tasks = map task_on_row rows; items = map item_on_row items } =
      λ i. record { tasks = taken.tasks.tasks i; items = (taken.items i).items } in
      let system_is : held s ≡ system_stated (rows_of_bytes Commented bytes) = here ∙ sym (ap system_stated rows_are ∙ stated_is) in
      record {
        form = form;
        system_is = system_is;
        plain = subst IsPlainShared (sym system_is) (well_formed_within (rows_of_bytes Commented bytes) (past_of_bytes bytes) form);
      }

staged_stated : (bytes : List ℕ) (stage : Stage) (s : ReaderState) → HasSecondForm bytes → staged_took stage s (rows_of_bytes Commented bytes)
    → IsStated bytes (held s)
staged_stated bytes stages.Header s form taken = absurd (cc (sym (ap is_second_complete taken.0) ∙ complete_form _ _ form))
staged_stated bytes stages.TaskCount s form taken = absurd (cc (sym (ap is_second_complete taken.rows_are) ∙ complete_form _ _ form))
staged_stated bytes stages.Tasks s form taken =
    let none = drop_all (tasks_stated taken.counted) taken.task_rows taken.taken.within in
    absurd (cc (sym (ap is_second_complete taken.rows_are ∙ ap are_items_complete none) ∙ complete_form _ _ form))
staged_stated bytes stages.Items s form taken =
    let left = drop_at taken.task_rows (taken.items_counted ∷ taken.item_rows) (tasks_stated taken.counted) taken.taken.whole in
    let whole : eqb (length taken.item_rows) (items_stated taken.items_counted + 1) ≡ true =
    sym (ap is_second_complete taken.rows_are ∙ ap are_items_complete left) ∙ complete_form _ _ form in
    absurd (let w = taken.taken.few in omega (arith, eqb-true _ _ whole, w))
staged_stated bytes stages.Ended s form taken =
    whole_stated taken.header taken.counted taken.items_counted taken.last taken.task_rows taken.item_rows taken.taken.whole taken.complete
    bytes s taken.rows_are form taken.taken

pub took_stated : (bytes : List ℕ) (s : ReaderState) → HasSecondForm bytes
    → took s (rows_of_bytes Commented bytes) → IsStated bytes (held s)
took_stated bytes s form taken = staged_stated bytes s.stage s form taken
