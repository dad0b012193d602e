-- Why no order passes a system: a task waits for itself, by an item or in a circle.
use Rattle.std.specs.Prelude.{◌≡◌, ℕ, unwrap_or, None, List, length, map}
use Rattle.lists.specs.Numbers.{Each, IsFirstWithout}
use Rattle.mp_system.specs.declared.system.Item.{Item}
use Rattle.mp_system.specs.System.{TaskSystem}
use Rattle.mp_system.specs.Traversal.{IsTraversal}
use Rattle.graphs.specs.declared.arc.Arc.{Arc}
use Rattle.graphs.specs.Graph.{CanBeOrdered}
use Rattle.fences.specs.declared.ordered.OrderFault.{OrderFault}
use Rattle.fences.specs.declared.ordered.OrderFault.TheVariants as faults
use Rattle.fences.specs.Judged.{item_at}

-- no task both produces and consumes the item
abbrev pub IsApart : Item → Type 0
IsApart item = item.from ≡ item.to → item.from ≡ None

-- the items as arcs of a graph, in which 0 stands for no task
abbrev pub arc_of : Item → Arc
arc_of item = record { from = unwrap_or item.from 0; to = unwrap_or item.to 0; size = item.size }

abbrev pub arcs_of : List Item → List Arc
arcs_of items = map arc_of items

abbrev pub HasNoTraversal : TaskSystem → Type 0
HasNoTraversal system = (order : List ℕ) → ¬ IsTraversal system order

-- the first item, or else the lowest task, for which there is none
abbrev pub IsOrderFault : TaskSystem → OrderFault → Type 0
IsOrderFault system (faults.OwnInput place) =
    IsFirstWithout (length system.items) (λ k. IsApart (item_at system k)) place × HasNoTraversal system
IsOrderFault system (faults.Cycle v) =
    Each (length system.items) (λ k. IsApart (item_at system k))
    × IsFirstWithout (length system.tasks) (CanBeOrdered (arcs_of system.items)) v
    × HasNoTraversal system
IsOrderFault system faults.NoMemory = Unit {0}
