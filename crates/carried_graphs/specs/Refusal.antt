-- What a system is refused with.
use Rattle.std.specs.Prelude.{ℕ, ◌-◌, ◌<◌, length}
use Rattle.lists.specs.Numbers.{IsFirstWithout}
use Rattle.graphs.specs.Graph.{TaskGraph}
use Rattle.graphs.specs.Judged.{HasFewArcs}
use Rattle.shared_systems.specs.Shared.{SharedTaskSystem, SharedItem, shared_item_at}
use Rattle.carried_graphs.specs.Carried.{IsLastReader}
use Rattle.carried_graphs.specs.declared.refusal.LastReaderRefusal.{LastReaderRefusal}
use Rattle.carried_graphs.specs.declared.refusal.LastReaderRefusal.TheVariants as items
use Rattle.carried_graphs.specs.declared.refusal.CarriedRefusal.{CarriedRefusal}
use Rattle.carried_graphs.specs.declared.refusal.CarriedRefusal.TheVariants as graphs

-- the item has a last reader, if it has readers at all
abbrev pub HasLastIfAny : SharedTaskSystem → SharedItem → Type 0
HasLastIfAny system x = 0 < length x.readers → (z : ℕ) × IsLastReader system x z

-- the first item, counted from 1, that has readers and none of them is last; want of memory tells nothing
abbrev pub IsLastReaderRefusal : SharedTaskSystem → LastReaderRefusal → Type 0
IsLastReaderRefusal system (items.Item i) =
    IsFirstWithout (length system.items) (λ place. HasLastIfAny system (shared_item_at system.items (place - 1))) i
IsLastReaderRefusal system items.NoMemory = Unit {0}

-- the graph has too many arcs; want of memory tells nothing
abbrev pub IsCarriedRefusal : TaskGraph → CarriedRefusal → Type 0
IsCarriedRefusal graph graphs.Arcs = HasFewArcs graph → ⊥
IsCarriedRefusal graph graphs.NoMemory = Unit {0}
