-- Systems that are the same up to the names of their tasks, the order of their items, and items of size 0 that no task produces.
use Rattle.std.specs.Prelude.{◌≡◌, ◌==◌, ℕ, ◌-◌, Bool, true, false, not, ◌||◌, if◌then◌else◌, Option, Some, None, option_map, List, All}
use Rattle.std.specs.Prelude.{map, count_by, slice_index_or, IsPermutation}
use Rattle.std.specs.List.{filter}
use Rattle.mp_system.specs.declared.system.Item.{Item}
use Rattle.mp_system.specs.System.{TaskSystem, IsTask, task_at}

-- the name of task k; 0 stands for none, and so does a number past the last name
abbrev pub name_in : List ℕ → ℕ → ℕ
name_in names k = if k == 0 then 0 else slice_index_or names (k - 1) 0

-- an item, with its tasks renamed
abbrev pub renamed : (ℕ → ℕ) → Item → Item
renamed name item = record { size = item.size; from = option_map name item.from; to = option_map name item.to }

abbrev pub has_producer : Option ℕ → Bool
has_producer None = false
has_producer (Some v) = true

-- an item of size 0 that no task produces takes no memory, and no task waits for it
abbrev pub is_solid : Item → Bool
is_solid item = has_producer item.from || not (item.size == 0)

-- the names are those of the tasks of `named`, each once; task k of `own` is the one that its name says, and the items are the
-- same under these names
pub record IsRenamed (names : List ℕ) (own named : TaskSystem) : Type 0 where
  pub once : (v : ℕ) → IsTask named v → count_by (λ u. u == v) names ≡ 1
  pub within : All (IsTask named) names
  pub tasks : own.tasks ≡ map (task_at named) names
  pub items : IsPermutation (map (renamed (name_in names)) (filter is_solid own.items)) (filter is_solid named.items)
