-- Shared systems: tasks and the items between them, where an item may have any number of readers. Otherwise they are the systems of
-- `mp_system`, in which an item has at most one consumer.
use Rattle.std.specs.Prelude.{◌==◌, ℕ, ◌+◌, ◌-◌, ◌≤◌, Bool, if◌then◌else◌, Option, Some, None, List, [], ◌∷◌, length, slice_index_or}
use Rattle.std.specs.List.{sum_by, list_any}
use Rattle.mp_system.specs.declared.system.Task.{Task}
use Rattle.mp_system.specs.System.{is_named}

-- an item: its size, the task that produces it, if one does, and the tasks that read it
pub record SharedItem : Type 0 where
  pub size : ℕ
  pub from : Option ℕ
  pub readers : List ℕ

-- a shared system: its tasks, numbered from 1 in the order of the list, and its items
pub record SharedTaskSystem : Type 0 where
  pub tasks : List Task
  pub items : List SharedItem

-- v is the number of a task
abbrev pub HasTask : SharedTaskSystem → ℕ → Type 0
HasTask system v = (1 ≤ v) × (v ≤ length system.tasks)

-- the task with this number
abbrev pub shared_task_at : SharedTaskSystem → ℕ → Task
shared_task_at system v = slice_index_or system.tasks (v - 1) (record { extra = 0; share = 0; time = 0 })

-- the item at a place, counted from 0
abbrev pub shared_item_at : List SharedItem → ℕ → SharedItem
shared_item_at items i = slice_index_or items i (record { size = 0; from = None; readers = [] })

-- the one reader, where there is just one
abbrev pub only : List ℕ → Option ℕ
only [] = None
only (c ∷ []) = Some c
only (c ∷ d ∷ cs) = None

-- whether task v produces the item, whether it reads it, and whether it alone does
abbrev pub is_made_by : ℕ → SharedItem → Bool
is_made_by v x = is_named x.from v

abbrev pub is_read_by : ℕ → SharedItem → Bool
is_read_by v x = list_any (λ c. c == v) x.readers

abbrev pub is_read_by_alone : ℕ → SharedItem → Bool
is_read_by_alone v x = is_named (only x.readers) v

-- the size of an item that passes the test, and 0 of one that does not
abbrev pub shared_size_if : (SharedItem → Bool) → SharedItem → ℕ
shared_size_if test x = if test x then x.size else 0

-- the sizes of the items that pass the test, together
abbrev pub shared_size_where : (SharedItem → Bool) → List SharedItem → ℕ
shared_size_where test items = sum_by (shared_size_if test) items

-- what a task produces, and what it alone reads
abbrev pub shared_outputs_of : SharedTaskSystem → ℕ → ℕ
shared_outputs_of system v = shared_size_where (is_made_by v) system.items

abbrev pub own_inputs_of : SharedTaskSystem → ℕ → ℕ
own_inputs_of system v = shared_size_where (is_read_by_alone v) system.items

-- what a task needs while it runs, beside the items that are there when it starts: its extra and its outputs, less the
-- share that it takes over from its inputs
abbrev pub shared_need_of : SharedTaskSystem → ℕ → ℕ
shared_need_of system v = (shared_task_at system v).extra + shared_outputs_of system v - (shared_task_at system v).share

-- a task's share is at most what it alone reads, since what others read too is not its own to take over, and at most its extra and its
-- outputs
abbrev pub HasOwnShare : SharedTaskSystem → ℕ → Type 0
HasOwnShare system v =
    ((shared_task_at system v).share ≤ own_inputs_of system v)
    × ((shared_task_at system v).share ≤ (shared_task_at system v).extra + shared_outputs_of system v)
