-- The systems of `mp_system`, in which an item has at most one consumer, as shared systems, and back.
use Rattle.std.specs.Prelude.{ℕ, ◌≤◌, Option, Some, None, List, [], ◌∷◌, length, map}
use Rattle.mp_system.specs.declared.system.Item.{Item}
use Rattle.mp_system.specs.System.{TaskSystem}
use Rattle.shared_systems.specs.Shared.{SharedTaskSystem, SharedItem, only}

-- the one consumer is the only reader; without a consumer there is no reader
abbrev pub readers_of : Option ℕ → List ℕ
readers_of None = []
readers_of (Some c) = c ∷ []

abbrev pub shared_item_of : Item → SharedItem
shared_item_of item = record { size = item.size; from = item.from; readers = readers_of item.to }

-- the same tasks and the same items
abbrev pub shared_of : TaskSystem → SharedTaskSystem
shared_of system = record { tasks = system.tasks; items = map shared_item_of system.items }

-- an item that no two tasks read
abbrev pub HasOneReader : SharedItem → Type 0
HasOneReader x = length x.readers ≤ 1

-- the only reader is the consumer; an item with several readers is left without one
abbrev pub unshared_item : SharedItem → Item
unshared_item x = record { size = x.size; from = x.from; to = only x.readers }

abbrev pub unshared : SharedTaskSystem → TaskSystem
unshared system = record { tasks = system.tasks; items = map unshared_item system.items }
