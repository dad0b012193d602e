-- Task graphs, as workflow runners have them: tasks, and arcs of data between them. Their systems, which tasks can be ordered, and
-- the completed graph, in which an arc leads into each task and out of it.
use Rattle.std.specs.Prelude.{◌≡◌, ◌==◌, ℕ, zero, suc, ◌+◌, ◌-◌, ◌<◌, ◌≤◌, true, if◌then◌else◌, Option, Some, None, All, List, ◌∷◌, ◌++◌}
use Rattle.std.specs.Prelude.{length, map, filter, take, count_by, slice_index_or}
use Rattle.std.specs.Prelude.{Bool}
use Rattle.std.specs.List.{sum_by, range_with_len}
use Rattle.limits.specs.Limits.{most_tasks, most_arcs, most_size, most_total}
use Rattle.mp_system.specs.declared.system.Task.{Task}
use Rattle.mp_system.specs.declared.system.Item.{Item}
use Rattle.mp_system.specs.System.{TaskSystem, IsTaskWithin, extra_size}
use Rattle.mp_system.specs.Memory.{stands_in}
use Rattle.graphs.specs.declared.arc.Arc.{Arc}

-- a graph: its tasks, numbered from 1 in the order of the list, and its arcs; the number 0 stands for no task
pub record TaskGraph : Type 0 where
  pub tasks : List Task
  pub arcs : List Arc

-- v is the number of one of so many tasks
abbrev pub IsAmong : ℕ → ℕ → Type 0
IsAmong n v = (1 ≤ v) × (v ≤ n)

-- ---- systems

-- the task at an end of an arc, if there is one
abbrev pub end_of : ℕ → Option ℕ
end_of zero = None
end_of (suc v) = Some (suc v)

abbrev pub item_of_arc : Arc → Item
item_of_arc arc = record { size = arc.size; from = end_of arc.from; to = end_of arc.to }

-- one item for each arc
abbrev pub own_system : TaskGraph → TaskSystem
own_system graph = record { tasks = graph.tasks; items = map item_of_arc graph.arcs }

-- ---- the completed graph

-- whether an arc leads into task v, and whether it leads out of it
abbrev pub is_into : ℕ → Arc → Bool
is_into v arc = arc.to == v

abbrev pub is_out_of : ℕ → Arc → Bool
is_out_of v arc = arc.from == v

abbrev pub arc_between : ℕ → ℕ → Arc
arc_between from to = record { from = from; to = to; size = 0 }

-- the tasks without an arc into them, and those without an arc out of them
abbrev pub without_into : ℕ → List Arc → List ℕ
without_into n arcs = filter (λ v. count_by (is_into v) arcs == 0) (range_with_len 1 n)

abbrev pub without_out : ℕ → List Arc → List ℕ
without_out n arcs = filter (λ v. count_by (is_out_of v) arcs == 0) (range_with_len 1 n)

-- arcs of size 0: one from none to each task without an arc into it, and one to none from each without an arc out of it
abbrev pub added_arcs : ℕ → List Arc → List Arc
added_arcs n arcs = map (λ v. arc_between 0 v) (without_into n arcs) ++ map (λ v. arc_between v 0) (without_out n arcs)

-- the arcs of the completed graph of so many tasks
abbrev pub completed_arcs : ℕ → List Arc → List Arc
completed_arcs n arcs = arcs ++ added_arcs n arcs

abbrev pub completed : TaskGraph → TaskGraph
completed graph = record { tasks = graph.tasks; arcs = completed_arcs (length graph.tasks) graph.arcs }

abbrev pub completed_system : TaskGraph → TaskSystem
completed_system graph = own_system (completed graph)

-- ---- which tasks can be ordered

-- where the tasks of `before` have run, all suppliers of task v have
abbrev pub IsSupplied : List Arc → List ℕ → ℕ → Type 0
IsSupplied arcs before v = All (λ arc. arc.to ≡ v → 1 ≤ arc.from → stands_in before arc.from ≡ true) arcs

-- all suppliers of each task of the list stand before it
pub record AreSupplied (arcs : List Arc) (list : List ℕ) : Type 0 where
  pub each : (before rest : List ℕ) (v : ℕ) → list ≡ before ++ v ∷ rest → IsSupplied arcs before v

-- the task stands in such a list
pub record CanBeOrdered (arcs : List Arc) (v : ℕ) : Type 0 where
  pub list : List ℕ
  pub supplied : AreSupplied arcs list
  pub stands : stands_in list v ≡ true

-- each of n tasks stands once in the list, after all its suppliers, and no other
pub record IsOrdering (n : ℕ) (arcs : List Arc) (list : List ℕ) : Type 0 where
  pub once : (v : ℕ) → IsAmong n v → count_by (λ u. u == v) list ≡ 1
  pub tasks : All (IsAmong n) list
  pub supplied : AreSupplied arcs list

-- an arc leads from a lower rank to a higher one, where it leads from a task to a task
abbrev pub Rises : (ℕ → ℕ) → Arc → Type 0
Rises rank arc = 1 ≤ arc.from → 1 ≤ arc.to → rank arc.from < rank arc.to

-- ---- shares

abbrev pub size_into : ℕ → Arc → ℕ
size_into v arc = if is_into v arc then arc.size else 0

abbrev pub size_out_of : ℕ → Arc → ℕ
size_out_of v arc = if is_out_of v arc then arc.size else 0

-- the task with this number
abbrev pub listed_task : List Task → ℕ → Task
listed_task tasks v = slice_index_or tasks (v - 1) (record { extra = 0; share = 0; time = 0 })

-- the share of a task is at most what it consumes, and at most its extra and what it produces
abbrev pub TaskShareFits : List Task → List Arc → ℕ → Type 0
TaskShareFits tasks arcs v =
    ((listed_task tasks v).share ≤ sum_by (size_into v) arcs)
    × ((listed_task tasks v).share ≤ (listed_task tasks v).extra + sum_by (size_out_of v) arcs)

-- ---- graphs within the limits

-- what each arc keeps to, in a graph of so many tasks: it leads from no task to the same task
pub record IsArcWithin (n : ℕ) (arc : Arc) : Type 0 where
  pub from : arc.from ≤ n
  pub to : arc.to ≤ n
  pub apart : arc.from ≡ arc.to → arc.from ≡ 0
  pub size : arc.size ≤ most_size

abbrev pub arc_size : Arc → ℕ
arc_size arc = arc.size

-- a graph within the limits: of tasks and of arcs of the completed graph, of each size and time, and of all extras and sizes
-- together; all tasks can be ordered, and all shares fit
pub record IsGraph (graph : TaskGraph) : Type 0 where
  pub few_tasks : length graph.tasks ≤ most_tasks
  pub few_arcs : length (completed_arcs (length graph.tasks) graph.arcs) ≤ most_arcs
  pub tasks : All IsTaskWithin graph.tasks
  pub arcs : All (IsArcWithin (length graph.tasks)) graph.arcs
  pub total : sum_by extra_size graph.tasks + sum_by arc_size graph.arcs ≤ most_total
  pub ordered : (v : ℕ) → IsAmong (length graph.tasks) v → CanBeOrdered graph.arcs v
  pub shares : (v : ℕ) → IsAmong (length graph.tasks) v → TaskShareFits graph.tasks graph.arcs v

-- the arcs of the completed graph, of which so many are the graph's own
pub record IsCompleted (tasks : List Task) (all : List Arc) (own : ℕ) : Type 0 where
  pub within : own ≤ length all
  pub graph : IsGraph (record { tasks = tasks; arcs = take own all })
  pub completed : all ≡ completed_arcs (length tasks) (take own all)
