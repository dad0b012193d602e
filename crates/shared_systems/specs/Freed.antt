-- What goes as a task ends, because it is the last of the readers.
use Rattle.std.specs.Prelude.{◌==◌, ℕ, Bool, ◌&&◌, ◌||◌}
use Rattle.std.specs.List.{list_all}
use Rattle.shared_systems.specs.Shared.{SharedTaskSystem, SharedItem, is_read_by, shared_size_where}

-- an item goes with task v, when the tasks that pass `done` are done before it: v reads it, and all its other readers are done
abbrev pub is_freed_by : (ℕ → Bool) → ℕ → SharedItem → Bool
is_freed_by done v x = is_read_by v x && list_all (λ c. done c || c == v) x.readers

-- the sizes of the items that go with task v, together
abbrev pub freed_by : SharedTaskSystem → (ℕ → Bool) → ℕ → ℕ
freed_by system done v = shared_size_where (is_freed_by done v) system.items
