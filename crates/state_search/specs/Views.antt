-- No public clause names this.
-- What a state tells of its tasks, and what each task needs and makes.
use Rattle.std.specs.Prelude.{◌≡◌, ℕ, ◌+◌, ◌-◌, false, ◌&&◌, Bool, List, length, slice_index, slice_index_or}
use Rattle.mp_system.specs.Replay.{is_marked}
use Rattle.shared_systems.specs.Shared.{SharedTaskSystem, SharedItem, HasTask, is_read_by, shared_size_where, shared_outputs_of, shared_need_of}
use Rattle.shared_systems.specs.SharedMemory.{is_made, are_done}
use Rattle.state_search.specs.declared.needs.Amounts.{Amounts}
use Rattle.state_search.specs.declared.view.View.{View}
use Rattle.state_search.specs.States.{memory_in, has_successor}

-- whether an item is gone: it is made, and all its readers are done
abbrev pub is_gone : List Bool → SharedItem → Bool
is_gone marks x = is_made (is_marked marks) x && are_done (is_marked marks) x.readers

-- whether an item was held before task v was run, and is gone
abbrev pub is_regained : List Bool → ℕ → SharedItem → Bool
is_regained marks v x = is_gone marks x && is_read_by v x

-- the sizes of what task v read and is gone, together
abbrev pub regained_of : SharedTaskSystem → List Bool → ℕ → ℕ
regained_of system marks v = shared_size_where (is_regained marks v) system.items

-- of a state: its memory, and for each task what it regains and whether a task that is done reads what it makes; nothing at the place 0
pub record IsView (system : SharedTaskSystem) (marks : List Bool) (view : View) : Type 0 where
  pub memory : view.memory ≡ memory_in system marks
  pub regained_len : length view.regained.items ≡ length system.tasks + 1
  pub regained : (v : ℕ) → slice_index view.regained.items v ≡ regained_of system marks v
  pub taken_up_len : length view.taken_up.items ≡ length system.tasks + 1
  pub taken_up : (v : ℕ) → slice_index_or view.taken_up.items v false ≡ has_successor system marks v

-- of each task: what it makes, and nothing at the place 0; and what it needs, where that of the first one stands first
pub record AreAmounts (system : SharedTaskSystem) (amounts : Amounts) : Type 0 where
  pub outputs_len : length amounts.outputs.items ≡ length system.tasks + 1
  pub outputs : (v : ℕ) → slice_index amounts.outputs.items v ≡ shared_outputs_of system v
  pub needs_len : length amounts.needs.items ≡ length system.tasks
  pub needs : (v : ℕ) → HasTask system v → slice_index amounts.needs.items (v - 1) ≡ shared_need_of system v
