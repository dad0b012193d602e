-- Systems of tasks and items as a caller's arrays give them.
use Rattle.std.specs.Prelude.{◌==◌, ℕ, if◌then◌else◌, Option, Some, None, List, map}
use Rattle.mp_system.specs.declared.system.Task.{Task}
use Rattle.mp_system.specs.declared.system.Item.{Item}
use Rattle.mp_system.specs.System.{TaskSystem}
use Rattle.mp_system.specs.declared.given.GivenTask.{GivenTask}
use Rattle.mp_system.specs.declared.given.GivenItem.{GivenItem}

abbrev pub task_given : GivenTask → Task
task_given task = record { extra = task.extra; share = task.share; time = task.time }

-- 0 names no task
abbrev pub end_given : ℕ → Option ℕ
end_given task = if task == 0 then None else Some task

abbrev pub item_given : GivenItem → Item
item_given item = record { size = item.size; from = end_given item.from; to = end_given item.to }

abbrev pub system_given : List GivenTask → List GivenItem → TaskSystem
system_given tasks items = record { tasks = map task_given tasks; items = map item_given items }
