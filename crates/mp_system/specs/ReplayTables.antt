-- No public clause names this.
-- What a replay keeps beside which tasks have run.
use Rattle.std.specs.Prelude.{◌≡◌, ℕ, ◌+◌, ◌-◌, ◌≤◌, Bool, true, unwrap_or, List, length, map, slice_index}
use Rattle.row_table.specs.Rows.{row_at, numbers_with}
use Rattle.mp_system.specs.declared.system.Item.{Item}
use Rattle.mp_system.specs.System.{TaskSystem, IsTask, outputs_of}
use Rattle.mp_system.specs.Memory.{state_memory, is_ready}
use Rattle.mp_system.specs.Replay.{is_marked}

-- the consumer of an item, 0 for none
abbrev pub consumer_of : Item → ℕ
consumer_of item = unwrap_or item.to 0

-- row v has the places, from 0, of the items that task v consumes
pub record AreInputs (system : TaskSystem) (rows : List (List ℕ)) : Type 0 where
  pub len : length rows ≡ length system.tasks + 1
  pub rows_are : (v : ℕ) → v ≤ length system.tasks → row_at rows v ≡ numbers_with (map consumer_of system.items) 0 v

-- the numbers are what the tasks produce
pub record AreOutputs (system : TaskSystem) (outputs : List ℕ) : Type 0 where
  pub len : length outputs ≡ length system.tasks
  pub sums : (v : ℕ) → IsTask system v → slice_index outputs (v - 1) ≡ outputs_of system v

-- the tables are those of the system; its tasks ran one after the other without a fault, and the memory is that of their state
pub record IsReplay (system : TaskSystem) (ran : List Bool) (outputs : List ℕ) (inputs : List (List ℕ)) (memory : ℕ) : Type 0 where
  pub len : length ran ≡ length system.tasks
  pub outputs_are : AreOutputs system outputs
  pub inputs_are : AreInputs system inputs
  pub memory_is : memory ≡ state_memory system (is_marked ran)
  pub suppliers : (v : ℕ) → is_marked ran v ≡ true → is_ready system (is_marked ran) v ≡ true
