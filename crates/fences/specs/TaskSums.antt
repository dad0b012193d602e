-- No public clause names this.
-- Sums of sizes by tasks, for the judge of amounts.
use Rattle.std.specs.Prelude.{◌≡◌, ℕ, ◌-◌, ◌≤◌, List, length, slice_index}
use Rattle.std.specs.Option.{ForSome}
use Rattle.mp_system.specs.declared.system.Item.{Item}
use Rattle.mp_system.specs.System.{is_input, is_output, size_where}

-- v is one of so many numbers, from 1 on
abbrev pub IsNumber : ℕ → ℕ → Type 0
IsNumber count v = (1 ≤ v) × (v ≤ count)

-- the tasks that an item names are among so many
pub record HasEnds (count : ℕ) (item : Item) : Type 0 where
  pub producer : ForSome item.from (IsNumber count)
  pub consumer : ForSome item.to (IsNumber count)

-- for each task what it consumes, and what it produces
pub record AreSums (count : ℕ) (items : List Item) (inputs outputs : List ℕ) : Type 0 where
  pub inputs_long : length inputs ≡ count
  pub outputs_long : length outputs ≡ count
  pub inputs_are : (v : ℕ) → 1 ≤ v → slice_index inputs (v - 1) ≡ size_where (is_input v) items
  pub outputs_are : (v : ℕ) → 1 ≤ v → slice_index outputs (v - 1) ≡ size_where (is_output v) items
