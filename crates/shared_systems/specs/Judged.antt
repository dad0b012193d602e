-- What tasks and items are refused with, where they are no shared system: the first test that fails, with the lowest task or the first item
-- that fails it.
use Rattle.std.specs.Prelude.{◌≡◌, ℕ, ◌-◌, ◌+◌, ◌<◌, ◌≤◌, false, All, List, length}
use Rattle.std.specs.List.{sum_by}
use Rattle.std.specs.List.Sorted.{IsStrictlyIncreasing}
use Rattle.std.specs.Option.{ForSome}
use Rattle.limits.specs.Limits.{most_tasks, most_positions, most_size, most_total, most_uses}
use Rattle.lists.specs.Numbers.{Each, IsFirstWithout}
use Rattle.mp_system.specs.System.{IsTaskWithin, extra_size, is_named}
use Rattle.mp_system.specs.declared.given.GivenTask.{GivenTask}
use Rattle.mp_system.specs.declared.judged.TaskTest.{TaskTest}
use Rattle.mp_system.specs.Judged.{TaskPasses, TasksPassBefore, TasksPass}
use Rattle.graphs.specs.Graph.{IsAmong, CanBeOrdered}
use Rattle.shared_systems.specs.Shared.{SharedTaskSystem, SharedItem, HasOwnShare, shared_item_at}
use Rattle.shared_systems.specs.Bounds.{IsSharedItemWithin, reader_count, shared_size, use_arcs}
use Rattle.shared_systems.specs.Given.{items_given, count_given, shared_system_given}
use Rattle.shared_systems.specs.declared.given.GivenSharedItem.{GivenSharedItem}
use Rattle.shared_systems.specs.declared.judged.SharedItemTest.{SharedItemTest}
use Rattle.shared_systems.specs.declared.judged.SharedItemTest.TheVariants as tests
use Rattle.shared_systems.specs.declared.judged.SharedFault.{SharedFault}
use Rattle.shared_systems.specs.declared.judged.SharedFault.TheVariants as faults
use Rattle.shared_systems.specs.declared.judged.SharedRefusal.{SharedRefusal}
use Rattle.shared_systems.specs.declared.judged.SharedRefusal.TheVariants as refusals

-- ---- tasks and items that are each within the limits

-- the numbers of tasks, items and readers, each task and item by itself, and all sizes together are within the limits; nothing is said of
-- orders and of shares
pub record IsPlainShared (system : SharedTaskSystem) : Type 0 where
  pub few_tasks : length system.tasks ≤ most_tasks
  pub few_items : length system.items ≤ most_positions
  pub few_uses : sum_by reader_count system.items ≤ most_uses
  pub tasks : All IsTaskWithin system.tasks
  pub items : All (IsSharedItemWithin (length system.tasks)) system.items
  pub total : sum_by extra_size system.tasks + sum_by shared_size system.items ≤ most_total

-- all tasks can be ordered
abbrev pub IsOrderedShared : SharedTaskSystem → Type 0
IsOrderedShared system = Each (length system.tasks) (CanBeOrdered (use_arcs system.items))

-- the first of the tests that are left; want of memory tells nothing
abbrev pub IsSharedFault : SharedTaskSystem → SharedFault → Type 0
IsSharedFault system (faults.Cycle v) = IsFirstWithout (length system.tasks) (CanBeOrdered (use_arcs system.items)) v
IsSharedFault system (faults.Share v) = IsOrderedShared system × IsFirstWithout (length system.tasks) (HasOwnShare system) v
IsSharedFault system faults.NoMemory = Unit {0}

-- ---- arrays of a caller

-- an item, in a system of so many tasks, passes a test: its producer is a task, or none; its readers are tasks, and the producer is none of
-- them; they rise, so none stands twice; its size is within the limit
abbrev pub SharedItemPasses : ℕ → SharedItemTest → SharedItem → Type 0
SharedItemPasses n tests.Producer x = ForSome x.from (IsAmong n)
SharedItemPasses n tests.Readers x = All (IsAmong n) x.readers
SharedItemPasses n tests.Apart x = All (λ c. is_named x.from c ≡ false) x.readers
SharedItemPasses n tests.Rising x = IsStrictlyIncreasing x.readers
SharedItemPasses n tests.Size x = x.size ≤ most_size

-- the item at a place, counted from 1, passes it
abbrev pub PlacePasses : ℕ → List SharedItem → SharedItemTest → ℕ → Type 0
PlacePasses n items test place = SharedItemPasses n test (shared_item_at items (place - 1))

-- each item passes a test
abbrev pub EachPasses : ℕ → List SharedItem → SharedItemTest → Type 0
EachPasses n items test = Each (length items) (PlacePasses n items test)

-- each item passes the tests before this one
abbrev pub SharedItemsPassBefore : ℕ → List SharedItem → SharedItemTest → Type 0
SharedItemsPassBefore n items tests.Producer = Unit {0}
SharedItemsPassBefore n items tests.Readers = EachPasses n items tests.Producer
SharedItemsPassBefore n items tests.Apart = EachPasses n items tests.Producer × EachPasses n items tests.Readers
SharedItemsPassBefore n items tests.Rising =
    EachPasses n items tests.Producer × EachPasses n items tests.Readers × EachPasses n items tests.Apart
SharedItemsPassBefore n items tests.Size =
    EachPasses n items tests.Producer × EachPasses n items tests.Readers × EachPasses n items tests.Apart × EachPasses n items tests.Rising

-- each item passes all tests
abbrev pub SharedItemsPass : ℕ → List SharedItem → Type 0
SharedItemsPass n items = (test : SharedItemTest) → EachPasses n items test

-- as many tasks, items and readers as there may be
abbrev pub AreFewShared : List GivenTask → List GivenSharedItem → List ℕ → Type 0
AreFewShared tasks items readers = (length tasks ≤ most_tasks) × (length items ≤ most_positions) × (length readers ≤ most_uses)

-- as many readers as the items say
abbrev pub AreCounted : List GivenSharedItem → List ℕ → Type 0
AreCounted items readers = sum_by count_given items ≡ length readers

-- all extras and sizes together
abbrev pub shared_total_given : List GivenTask → List GivenSharedItem → ℕ
shared_total_given tasks items = sum_by (λ task. task.extra) tasks + sum_by (λ item. item.size) items

-- the first test that an item fails, with the first item that fails it, counted from 1
abbrev pub IsFirstItemFault : ℕ → List SharedItem → SharedItemTest → ℕ → Type 0
IsFirstItemFault n items test i = SharedItemsPassBefore n items test × IsFirstWithout (length items) (PlacePasses n items test) i

-- the same of the tasks
abbrev pub IsFirstTaskFault : List GivenTask → TaskTest → ℕ → Type 0
IsFirstTaskFault tasks test v = TasksPassBefore tasks test × IsFirstWithout (length tasks) (TaskPasses tasks test) v

-- everything but the total, orders and shares
pub record ArePlainShared (tasks : List GivenTask) (items : List GivenSharedItem) (readers : List ℕ) : Type 0 where
  pub few : AreFewShared tasks items readers
  pub counted : AreCounted items readers
  pub tasks_pass : TasksPass tasks
  pub items_pass : SharedItemsPass (length tasks) (items_given items readers)

-- the first test that fails; want of memory tells nothing
abbrev pub IsSharedRefusal : List GivenTask → List GivenSharedItem → List ℕ → SharedRefusal → Type 0
IsSharedRefusal tasks items readers refusals.ManyTasks = most_tasks < length tasks
IsSharedRefusal tasks items readers refusals.ManyItems = (length tasks ≤ most_tasks) × (most_positions < length items)
IsSharedRefusal tasks items readers refusals.ManyUses =
    (length tasks ≤ most_tasks) × (length items ≤ most_positions) × (most_uses < length readers)
IsSharedRefusal tasks items readers refusals.Counts = AreFewShared tasks items readers × (AreCounted items readers → ⊥)
IsSharedRefusal tasks items readers (refusals.Task test v) =
    AreFewShared tasks items readers × AreCounted items readers × IsFirstTaskFault tasks test v
IsSharedRefusal tasks items readers (refusals.Item test i) =
    AreFewShared tasks items readers × AreCounted items readers × TasksPass tasks
    × IsFirstItemFault (length tasks) (items_given items readers) test i
IsSharedRefusal tasks items readers refusals.Total = ArePlainShared tasks items readers × (most_total < shared_total_given tasks items)
IsSharedRefusal tasks items readers (refusals.Cycle v) =
    ArePlainShared tasks items readers × (shared_total_given tasks items ≤ most_total)
    × IsSharedFault (shared_system_given tasks items readers) (faults.Cycle v)
IsSharedRefusal tasks items readers (refusals.Share v) =
    ArePlainShared tasks items readers × (shared_total_given tasks items ≤ most_total)
    × IsSharedFault (shared_system_given tasks items readers) (faults.Share v)
IsSharedRefusal tasks items readers refusals.NoMemory = Unit {0}

-- what a caller is told of a fault
abbrev pub refusal_of : SharedFault → SharedRefusal
refusal_of (faults.Cycle v) = refusals.Cycle v
refusal_of (faults.Share v) = refusals.Share v
refusal_of faults.NoMemory = refusals.NoMemory
