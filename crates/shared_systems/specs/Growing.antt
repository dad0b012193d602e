-- Items that are made one after the other.
use Rattle.std.specs.Prelude.{ℕ, List, [], ◌∷◌, ◌++◌}
use Rattle.mp_system.specs.Given.{end_given}
use Rattle.shared_systems.specs.Shared.{SharedItem}

-- the items that are made, and the readers that wait for the next one
pub record ItemsSoFar : Type 0 where
  pub items : List SharedItem
  pub waiting : List ℕ

abbrev pub no_items : ItemsSoFar
no_items = record { items = []; waiting = [] }

-- one more reader waits
abbrev pub with_reader : ItemsSoFar → ℕ → ItemsSoFar
with_reader made c = record { items = made.items; waiting = made.waiting ++ c ∷ [] }

-- an item takes the readers that wait
abbrev pub with_item : ItemsSoFar → ℕ → ℕ → ItemsSoFar
with_item made size from =
    record { items = made.items ++ record { size = size; from = end_given from; readers = made.waiting } ∷ []; waiting = [] }
