-- What tasks and items of a caller are refused with, where they are no system: the first test that fails, with the lowest task or the
-- first item that fails it.
use Rattle.std.specs.Prelude.{ℕ, ◌-◌, ◌+◌, ◌<◌, ◌≤◌, List, length, slice_index_or}
use Rattle.std.specs.List.{sum_by}
use Rattle.limits.specs.Limits.{most_tasks, most_positions, most_size, most_time, most_total}
use Rattle.lists.specs.Numbers.{Each, IsFirstWithout}
use Rattle.mp_system.specs.System.{HasShare}
use Rattle.mp_system.specs.Given.{system_given}
use Rattle.mp_system.specs.declared.given.GivenTask.{GivenTask}
use Rattle.mp_system.specs.declared.given.GivenItem.{GivenItem}
use Rattle.mp_system.specs.declared.judged.TaskTest.{TaskTest}
use Rattle.mp_system.specs.declared.judged.TaskTest.TheVariants as task_tests
use Rattle.mp_system.specs.declared.judged.ItemTest.{ItemTest}
use Rattle.mp_system.specs.declared.judged.ItemTest.TheVariants as item_tests
use Rattle.mp_system.specs.declared.judged.SystemRefusal.{SystemRefusal}
use Rattle.mp_system.specs.declared.judged.SystemRefusal.TheVariants as refusals

abbrev pub given_task : List GivenTask → ℕ → GivenTask
given_task tasks v = slice_index_or tasks (v - 1) (record { extra = 0; share = 0; time = 0 })

abbrev pub given_item : List GivenItem → ℕ → GivenItem
given_item items i = slice_index_or items (i - 1) (record { size = 0; from = 0; to = 0 })

-- task v passes a test: there is a time, the extra and the time are within the limits
abbrev pub TaskPasses : List GivenTask → TaskTest → ℕ → Type 0
TaskPasses tasks task_tests.Time v = 1 ≤ (given_task tasks v).time
TaskPasses tasks task_tests.Size v = (given_task tasks v).extra ≤ most_size
TaskPasses tasks task_tests.LongTime v = (given_task tasks v).time ≤ most_time

-- item i, of a system of so many tasks, passes a test: its ends are tasks or 0, its size is within the limit
abbrev pub ItemPasses : ℕ → List GivenItem → ItemTest → ℕ → Type 0
ItemPasses count items item_tests.Ends i = ((given_item items i).from ≤ count) × ((given_item items i).to ≤ count)
ItemPasses count items item_tests.Size i = (given_item items i).size ≤ most_size

-- as many tasks and items as there may be
abbrev pub AreFew : List GivenTask → List GivenItem → Type 0
AreFew tasks items = (length tasks ≤ most_tasks) × (length items ≤ most_positions)

-- each task passes the tests before this one
abbrev pub TasksPassBefore : List GivenTask → TaskTest → Type 0
TasksPassBefore tasks task_tests.Time = Unit {0}
TasksPassBefore tasks task_tests.Size = Each (length tasks) (TaskPasses tasks task_tests.Time)
TasksPassBefore tasks task_tests.LongTime =
    Each (length tasks) (TaskPasses tasks task_tests.Time) × Each (length tasks) (TaskPasses tasks task_tests.Size)

-- each task passes all tests
abbrev pub TasksPass : List GivenTask → Type 0
TasksPass tasks = (test : TaskTest) → Each (length tasks) (TaskPasses tasks test)

-- each item passes the tests before this one
abbrev pub ItemsPassBefore : ℕ → List GivenItem → ItemTest → Type 0
ItemsPassBefore count items item_tests.Ends = Unit {0}
ItemsPassBefore count items item_tests.Size = Each (length items) (ItemPasses count items item_tests.Ends)

-- each item passes all tests
abbrev pub ItemsPass : ℕ → List GivenItem → Type 0
ItemsPass count items = (test : ItemTest) → Each (length items) (ItemPasses count items test)

-- all extras and sizes together
abbrev pub total_given : List GivenTask → List GivenItem → ℕ
total_given tasks items = sum_by (λ task. task.extra) tasks + sum_by (λ item. item.size) items

-- everything but the shares
pub record ArePlain (tasks : List GivenTask) (items : List GivenItem) : Type 0 where
  pub few : AreFew tasks items
  pub tasks_pass : TasksPass tasks
  pub items_pass : ItemsPass (length tasks) items

-- the first test that fails; want of memory tells nothing
abbrev pub IsSystemRefusal : List GivenTask → List GivenItem → SystemRefusal → Type 0
IsSystemRefusal tasks items refusals.ManyTasks = most_tasks < length tasks
IsSystemRefusal tasks items refusals.ManyItems = (length tasks ≤ most_tasks) × (most_positions < length items)
IsSystemRefusal tasks items (refusals.Task test v) =
    AreFew tasks items × TasksPassBefore tasks test × IsFirstWithout (length tasks) (TaskPasses tasks test) v
IsSystemRefusal tasks items (refusals.Item test i) =
    AreFew tasks items × TasksPass tasks × ItemsPassBefore (length tasks) items test
    × IsFirstWithout (length items) (ItemPasses (length tasks) items test) i
IsSystemRefusal tasks items refusals.Total = ArePlain tasks items × (most_total < total_given tasks items)
IsSystemRefusal tasks items (refusals.Share v) =
    ArePlain tasks items × (total_given tasks items ≤ most_total)
    × IsFirstWithout (length tasks) (HasShare (system_given tasks items)) v
IsSystemRefusal tasks items refusals.NoMemory = Unit {0}
