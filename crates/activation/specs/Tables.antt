-- No public clause names this.
-- The tables of a core: what its code keeps beside the state, and what each number stands for.
use Rattle.std.specs.Prelude.{◌≡◌, ℕ, ◌+◌, ◌<◌, ◌≤◌, Bool, not, ◌==◌, ◌&&◌, if◌then◌else◌, List, [], ◌∷◌, ◌++◌, All, length, map}
use Rattle.std.specs.Prelude.{slice_index, count_by}
use Rattle.std.specs.List.{filter}
use Rattle.bit_rows.specs.Bits.{bit_in}
use Rattle.limits.specs.Limits.{most_workers}
use Rattle.row_table.specs.Rows.{row_at}
use Rattle.shared_systems.specs.Shared.{SharedTaskSystem, SharedItem, shared_item_at, shared_task_at, is_read_by, is_made_by}
use Rattle.shared_systems.specs.Shared.{own_inputs_of, shared_outputs_of, shared_need_of}
use Rattle.shared_systems.specs.Bounds.{shared_size}
use Rattle.shared_systems.specs.Collected.{is_shared}
use Rattle.shared_systems.specs.SharedMemory.{is_made, has_inputs}
use Rattle.mp_system.specs.Memory.{stands_in}
use Rattle.activation.specs.Machine.{Setting, State, IsSetting, phase_in, is_idle_phase, activated_tasks, is_done, is_running}
use Rattle.activation.specs.Machine.{running_count, booked_memory, used_memory}
use Rattle.activation.specs.Safe.{IsSafe}
use Rattle.activation.specs.Running.{RunningValue}
use Rattle.activation.specs.Schedule.{task_entry}

-- task t produces the item, and task u reads it
abbrev pub is_edge : ℕ → ℕ → SharedItem → Bool
is_edge t u x = is_made_by t x && is_read_by u x

-- task t waits for the item: it reads it, and it has not been made
abbrev pub is_awaited : (ℕ → Bool) → ℕ → SharedItem → Bool
is_awaited done t x = is_read_by t x && not (is_made done x)

-- how many items a task waits for
unfoldable pub awaited : SharedTaskSystem → (ℕ → Bool) → ℕ → ℕ
awaited system done t = count_by (is_awaited done t) system.items

-- the shared items, those with several readers: what goes with their last reader is not fixed beforehand
abbrev pub shared_items_of : SharedTaskSystem → List SharedItem
shared_items_of system = filter is_shared system.items

-- how many readers of an item are not done
abbrev pub readers_left : (ℕ → Bool) → SharedItem → ℕ
readers_left done x = count_by (λ c. not (done c)) x.readers

-- the numbers of those items that task t reads, where they are numbered from `first` on
abbrev pub numbers_read : ℕ → ℕ → List SharedItem → List ℕ
numbers_read t first [] = []
numbers_read t first (x ∷ xs) = (if is_read_by t x then first ∷ [] else []) ++ numbers_read t (first + 1) xs

-- the number k tells of the task at place k of the order what the relation says
pub record AreByPlace (order : List ℕ) (tells : ℕ → ℕ → Type 0) (numbers : List ℕ) : Type 0 where
  pub long : length numbers ≡ length order
  pub each : (k : ℕ) → k < length order → tells (slice_index order k) (slice_index numbers k)

-- the row of a place has the places of the tasks that read an output of the task there, once for each item that goes from the one to the
-- other
pub record AreConsumerRows (order : List ℕ) (items : List SharedItem) (rows : List (List ℕ)) : Type 0 where
  pub long : length rows ≡ length order
  pub within : (k : ℕ) → k < length order → All (λ p. p < length order) (row_at rows k)
  pub counts : (k p : ℕ) → k < length order → p < length order →
      count_by (λ q. q == p) (row_at rows k) ≡ count_by (is_edge (slice_index order k) (slice_index order p)) items

-- the row of a place has the numbers of the items that the task there reads
pub record AreReadingRows (order : List ℕ) (items : List SharedItem) (rows : List (List ℕ)) : Type 0 where
  pub long : length rows ≡ length order
  pub rows_are : (k : ℕ) → k < length order → row_at rows k ≡ numbers_read (slice_index order k) 0 items

-- how many readers of each item are not done
pub record AreLeft (done : ℕ → Bool) (items : List SharedItem) (left : List ℕ) : Type 0 where
  pub long : length left ≡ length items
  pub each : (j : ℕ) → j < length items → slice_index left j ≡ readers_left done (shared_item_at items j)

-- each of so many has a number below their count, and no two have the same
pub record IsNumbering (count : ℕ) (numbers : List ℕ) : Type 0 where
  pub long : length numbers ≡ count
  pub within : (k : ℕ) → k < count → slice_index numbers k < count
  pub once : (j k : ℕ) → j < count → k < count → slice_index numbers j ≡ slice_index numbers k → j ≡ k

-- the places of the tasks of a list, counted from 0
abbrev pub AreTaskPlaces : List ℕ → List ℕ → Type 0
AreTaskPlaces tasks places = (k : ℕ) → k < length tasks → task_entry places (slice_index tasks k) ≡ k

-- a task that may start as soon as a worker is free
abbrev pub is_startable : Setting → State → ℕ → Bool
is_startable c st t = stands_in (activated_tasks c st) t && (is_idle_phase (phase_in st.phases t) && has_inputs c.system (is_done st) t)

-- the places of the startable tasks, as a row of bits
pub record AreStartable (c : Setting) (st : State) (places : List Bool) : Type 0 where
  pub long : length places ≡ length c.order
  pub each : (k : ℕ) → k < length c.order → bit_in places k ≡ is_startable c st (slice_index c.order k)

-- the tables that no event changes. By the places of the order: how long the task there takes, what it needs, what its end frees beside
-- shared items, less what it leaves, who reads its outputs, and the numbers of the shared items that it reads. By the tasks: their places.
-- By the shared items: their sizes
pub record FixedTables : Type 0 where
  pub times : List ℕ
  pub needs : List ℕ
  pub frees : List ℕ
  pub places : List ℕ
  pub consumers : List (List ℕ)
  pub readings : List (List ℕ)
  pub sizes : List ℕ

pub record AreFixed (c : Setting) (x : FixedTables) : Type 0 where
  pub times_are : AreByPlace c.order (λ t n. n ≡ (shared_task_at c.system t).time) x.times
  pub needs_are : AreByPlace c.order (λ t n. n ≡ shared_need_of c.system t) x.needs
  pub frees_are : AreByPlace c.order
      (λ t n. n + shared_outputs_of c.system t ≡ shared_need_of c.system t + own_inputs_of c.system t) x.frees
  pub places_length : length x.places ≡ length c.system.tasks
  pub places_are : AreTaskPlaces c.order x.places
  pub consumers_are : AreConsumerRows c.order c.system.items x.consumers
  pub readings_are : AreReadingRows c.order (shared_items_of c.system) x.readings
  pub sizes_are : x.sizes ≡ map shared_size (shared_items_of c.system)

-- and those that go along: by the places how many items the task there waits for, and whether it is startable; by the shared items how
-- many of their readers are not done; the running tasks; booked and used memory
pub record CoreTables : Type 0 where
  pub fixed : FixedTables
  pub waiting : List ℕ
  pub startable : List Bool
  pub left : List ℕ
  pub running : RunningValue
  pub booked : ℕ
  pub used : ℕ

-- the tables are those of the core in this state
pub record AreCoreTables (c : Setting) (st : State) (x : CoreTables) : Type 0 where
  pub setting : IsSetting c
  pub few_workers : c.workers ≤ most_workers
  pub safe : IsSafe c st
  pub fixed : AreFixed c x.fixed
  pub waiting_are : AreByPlace c.order (λ t n. n ≡ awaited c.system (is_done st) t) x.waiting
  pub startable_are : AreStartable c st x.startable
  pub left_are : AreLeft (is_done st) (shared_items_of c.system) x.left
  pub running_room : x.running.room ≡ c.workers
  pub running_numbers : x.running.count ≡ length c.system.tasks
  pub running_length : length x.running.listed ≡ running_count c st
  pub running_are : (t : ℕ) → stands_in x.running.listed t ≡ is_running st t
  pub booked_is : x.booked ≡ booked_memory c st
  pub used_is : x.used ≡ used_memory c st
