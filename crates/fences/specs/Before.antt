-- No public clause names this.
-- A search backwards from a task, for those that it comes after anyway.
use Rattle.std.specs.Prelude.{◌≡◌, ◌⊎◌, ℕ, ◌+◌, ◌<◌, ◌≤◌, Bool, true, All, List, length, map, slice_index, slice_index_or}
use Rattle.std.specs.List.{filter}
use Rattle.row_table.specs.Rows.{row_at}
use Rattle.shared_systems.specs.Shared.{SharedTaskSystem, SharedItem, HasTask, is_read_by, shared_item_at}
use Rattle.shared_systems.specs.SharedMemory.{has_inputs}
use Rattle.shared_systems.specs.Collected.{is_shared}
use Rattle.shared_systems.specs.Paths.{ComesAfter}
use Rattle.fences.specs.declared.fenced.Fence.{Fence}
use Rattle.fences.specs.declared.implied.Reading.{Reading}
use Rattle.fences.specs.declared.implied.Readings.{Readings}
use Rattle.fences.specs.declared.implied.Search.{Search}
use Rattle.fences.specs.SharedRuns.{is_over}

-- what the fence lets its task wait for is over whenever that task has what it reads, as long as all done tasks had
abbrev pub IsImplied : SharedTaskSystem → Fence → Type 0
IsImplied system fence =
    (done : ℕ → Bool) → ((v : ℕ) → done v ≡ true → has_inputs system done v ≡ true) → has_inputs system done fence.to ≡ true →
    is_over system done fence.from ≡ true

-- a task reads the item at a place, from 0
pub record IsReading (system : SharedTaskSystem) (reading : Reading) : Type 0 where
  pub item : reading.item < length system.items
  pub task : HasTask system reading.reader
  pub reads : is_read_by reading.reader (shared_item_at system.items reading.item) ≡ true

abbrev pub reader_of : Reading → ℕ
reader_of reading = reading.reader

-- the reading with this number, from 0
abbrev pub reading_at : List Reading → ℕ → Reading
reading_at readings k = slice_index_or readings k (record { item = 0; reader = 0 })

-- readings, and which of them are those of each task
pub record AreReadings (system : SharedTaskSystem) (readings : Readings) : Type 0 where
  pub all : All (IsReading system) readings.all.items
  pub long : length readings.rows ≡ length system.tasks + 1
  pub rows : (v : ℕ) → v < length readings.rows →
      All (λ k. (k < length readings.all.items) × ((reading_at readings.all.items k).reader ≡ v)) (row_at readings.rows v)

-- a task comes before the one from which the search began
abbrev pub IsBefore : SharedTaskSystem → ℕ → ℕ → Type 0
IsBefore system task u = HasTask system u × ComesAfter system u task

-- a task is the one from which the search began, or comes before it
pub record IsFound (system : SharedTaskSystem) (task u : ℕ) : Type 0 where
  pub is_task : HasTask system u
  pub before : (u ≡ task) ⊎ ComesAfter system u task

-- a mark at a task is the number of one that it comes before
pub record AreMarked (system : SharedTaskSystem) (marks : List ℕ) : Type 0 where
  pub long : length marks ≡ length system.tasks + 1
  pub after : (u : ℕ) → 1 ≤ slice_index marks u → ComesAfter system u (slice_index marks u)

abbrev pub IsSearch : SharedTaskSystem → Search → Type 0
IsSearch system search = AreMarked system search.marks.items × All (IsFound system search.task) search.found.items

-- the places, from 0, of the items with several readers
pub record AreSharedPlaces (items : List SharedItem) (places : List ℕ) : Type 0 where
  pub inside : All (λ i. i < length items) places
  pub items_are : map (shared_item_at items) places ≡ filter is_shared items
