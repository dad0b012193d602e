-- The text of a shared system: the graph file of version 2 that is printed for it. Graph files are this project's own format.
use Rattle.std.specs.Prelude.{ℕ, unwrap_or, List, [], ◌∷◌, ◌++◌, length, map, codes}
use Rattle.std.specs.Fmt.{decimal}
use Rattle.mp_text.specs.Report.{text_of_lines}
use Rattle.file_frame.specs.declared.version.Version.TheVariants.{Two}
use Rattle.file_frame.specs.Printed.{header_line, section_line, end_line}
use Rattle.mp_system.specs.declared.system.Task.{Task}
use Rattle.shared_systems.specs.Shared.{SharedTaskSystem, SharedItem}

-- a task: `extra share time`
abbrev pub task_line : Task → List (List ℕ)
task_line task = map decimal (task.extra ∷ task.share ∷ task.time ∷ [])

-- an item: `size from c1 .. ck`; 0 is no producer
abbrev pub item_line : SharedItem → List (List ℕ)
item_line x = map decimal (x.size ∷ unwrap_or x.from 0 ∷ x.readers)

abbrev pub graph_lines_2 : SharedTaskSystem → List (List (List ℕ))
graph_lines_2 system =
    header_line (codes "graph") Two ∷ section_line (codes "tasks") (length system.tasks)
    ∷ (map task_line system.tasks
    ++ section_line (codes "items") (length system.items) ∷ (map item_line system.items ++ end_line ∷ []))

abbrev pub graph_text_2 : SharedTaskSystem → List ℕ
graph_text_2 system = text_of_lines (graph_lines_2 system)
