-- What tasks and arcs are refused with, where they are no graph though each is within the limits: the first test that fails, with the
-- lowest task that fails it.
use Rattle.std.specs.Prelude.{ℕ, ◌+◌, ◌≤◌, All, length}
use Rattle.std.specs.List.{sum_by}
use Rattle.limits.specs.Limits.{most_tasks, most_arcs, most_total}
use Rattle.lists.specs.Numbers.{IsFirstWithout}
use Rattle.mp_system.specs.System.{IsTaskWithin, extra_size}
use Rattle.graphs.specs.Graph.{TaskGraph, IsAmong, IsArcWithin, CanBeOrdered, TaskShareFits, arc_size, completed_arcs}
use Rattle.graphs.specs.declared.judged.GraphFault.{GraphFault}
use Rattle.graphs.specs.declared.judged.GraphFault.TheVariants as faults

-- the numbers of tasks and arcs, each task and arc by itself, and all sizes together are within the limits; nothing is said of the arcs
-- that complete the graph, of orders and of shares
pub record IsPlain (graph : TaskGraph) : Type 0 where
  pub few_tasks : length graph.tasks ≤ most_tasks
  pub few_arcs : length graph.arcs ≤ most_arcs
  pub tasks : All IsTaskWithin graph.tasks
  pub arcs : All (IsArcWithin (length graph.tasks)) graph.arcs
  pub total : sum_by extra_size graph.tasks + sum_by arc_size graph.arcs ≤ most_total

-- the completed graph has few enough arcs
abbrev pub HasFewArcs : TaskGraph → Type 0
HasFewArcs graph = length (completed_arcs (length graph.tasks) graph.arcs) ≤ most_arcs

-- all tasks can be ordered
abbrev pub IsOrdered : TaskGraph → Type 0
IsOrdered graph = (v : ℕ) → IsAmong (length graph.tasks) v → CanBeOrdered graph.arcs v

-- the first test that fails; want of memory tells nothing
abbrev pub IsGraphFault : TaskGraph → GraphFault → Type 0
IsGraphFault graph faults.Arcs = HasFewArcs graph → ⊥
IsGraphFault graph (faults.Cycle v) = HasFewArcs graph × IsFirstWithout (length graph.tasks) (CanBeOrdered graph.arcs) v
IsGraphFault graph (faults.Share v) =
    HasFewArcs graph × IsOrdered graph × IsFirstWithout (length graph.tasks) (TaskShareFits graph.tasks graph.arcs) v
IsGraphFault graph faults.NoMemory = Unit {0}
