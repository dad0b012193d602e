-- Shared systems as a caller's arrays give them.
use Rattle.std.specs.Prelude.{ℕ, List, [], ◌∷◌, map, take, drop}
use Rattle.mp_system.specs.declared.given.GivenTask.{GivenTask}
use Rattle.mp_system.specs.Given.{task_given, end_given}
use Rattle.shared_systems.specs.declared.given.GivenSharedItem.{GivenSharedItem}
use Rattle.shared_systems.specs.Shared.{SharedItem, SharedTaskSystem}

-- how many readers of an item there are to be
abbrev pub count_given : GivenSharedItem → ℕ
count_given item = item.readers

-- the items: each takes as many of the readers as it says, one after the other
abbrev pub items_given : List GivenSharedItem → List ℕ → List SharedItem
items_given [] readers = []
items_given (x ∷ xs) readers =
    record { size = x.size; from = end_given x.from; readers = take x.readers readers } ∷ items_given xs (drop x.readers readers)

abbrev pub shared_system_given : List GivenTask → List GivenSharedItem → List ℕ → SharedTaskSystem
shared_system_given tasks items readers = record { tasks = map task_given tasks; items = items_given items readers }
