-- Systems of tasks and data items (Liu 1987, where the tasks are the nodes of a tree and the items their blocks).
use Rattle.std.specs.Prelude.{◌==◌, ℕ, ◌+◌, ◌-◌, ◌≤◌, Bool, false, if◌then◌else◌, Option, Some, None, All, List, length, slice_index_or}
use Rattle.std.specs.List.{sum_by}
use Rattle.std.specs.Option.{ForSome}
use Rattle.limits.specs.Limits.{most_tasks, most_positions, most_size, most_time, most_total}
use Rattle.mp_system.specs.declared.system.Task.{Task}
use Rattle.mp_system.specs.declared.system.Item.{Item}

-- a system: its tasks, numbered from 1 in the order of the list, and its items
pub record TaskSystem : Type 0 where
  pub tasks : List Task
  pub items : List Item

-- v is the number of a task
abbrev pub IsTask : TaskSystem → ℕ → Type 0
IsTask system v = (1 ≤ v) × (v ≤ length system.tasks)

-- the task with this number
abbrev pub task_at : TaskSystem → ℕ → Task
task_at system v = slice_index_or system.tasks (v - 1) (record { extra = 0; share = 0; time = 0 })

-- whether task v is named
abbrev pub is_named : Option ℕ → ℕ → Bool
is_named None v = false
is_named (Some u) v = u == v

-- whether task v produces the item, and whether it consumes it
abbrev pub is_output : ℕ → Item → Bool
is_output v item = is_named item.from v

abbrev pub is_input : ℕ → Item → Bool
is_input v item = is_named item.to v

-- the size of an item that passes the test, and 0 of one that does not
abbrev pub size_if : (Item → Bool) → Item → ℕ
size_if test item = if test item then item.size else 0

-- the sizes of the items that pass the test, together
abbrev pub size_where : (Item → Bool) → List Item → ℕ
size_where test items = sum_by (size_if test) items

-- what a task consumes, and what it produces
abbrev pub inputs_of : TaskSystem → ℕ → ℕ
inputs_of system v = size_where (is_input v) system.items

abbrev pub outputs_of : TaskSystem → ℕ → ℕ
outputs_of system v = size_where (is_output v) system.items

-- what a task needs while it runs, beside the items that are there when it starts: its extra and its outputs, less the
-- share that it takes over from its inputs
abbrev pub need_of : TaskSystem → ℕ → ℕ
need_of system v = (task_at system v).extra + outputs_of system v - (task_at system v).share

-- a task's share is at most its inputs, and at most its extra and its outputs
abbrev pub HasShare : TaskSystem → ℕ → Type 0
HasShare system v =
    ((task_at system v).share ≤ inputs_of system v) × ((task_at system v).share ≤ (task_at system v).extra + outputs_of system v)

abbrev pub extra_size : Task → ℕ
extra_size task = task.extra

abbrev pub item_size : Item → ℕ
item_size item = item.size

-- what each task keeps to, and each item
pub record IsTaskWithin (task : Task) : Type 0 where
  pub extra : task.extra ≤ most_size
  pub time : (1 ≤ task.time) × (task.time ≤ most_time)

pub record IsItemWithin (system : TaskSystem) (item : Item) : Type 0 where
  pub size : item.size ≤ most_size
  pub producer : ForSome item.from (IsTask system)
  pub consumer : ForSome item.to (IsTask system)

-- a system within the limits: of tasks and items, of each size and time, and of all extras and sizes together
pub record IsSystem (system : TaskSystem) : Type 0 where
  pub few_tasks : length system.tasks ≤ most_tasks
  pub few_items : length system.items ≤ most_positions
  pub tasks : All IsTaskWithin system.tasks
  pub items : All (IsItemWithin system) system.items
  pub total : sum_by extra_size system.tasks + sum_by item_size system.items ≤ most_total
  pub shares : (v : ℕ) → IsTask system v → HasShare system v
