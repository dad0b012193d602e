use Rattle.std.proofs.Common.{ℕ, ◌+◌, ◌-◌, ◌<◌, ◌≤◌, length, arith}
use Rattle.std.specs.List.{sum_by}
use Rattle.limits.specs.Limits.{most_total}
use Rattle.shared_systems.specs.Shared.{SharedTaskSystem, shared_task_at, shared_outputs_of, shared_size_where, is_read_by, is_made_by, HasTask}
use Rattle.shared_systems.specs.Bounds.{IsSharedSystem}
use Rattle.bound_search.proofs.TaskSums.{read_and_made-le, extra-le}
use Rattle.bound_search.proofs.needs.memory_of.Goals as goal

-- all that a task needs is within the total
whole-le : (system : SharedTaskSystem) (t : ℕ) → IsSharedSystem system → HasTask system t
    → shared_size_where (is_read_by t) system.items + ((shared_task_at system t).extra + shared_size_where (is_made_by t) system.items) ≤ most_total
whole-le system t is has =
    let inside : t - 1 < length system.tasks = omega arith in
    omega (
      arith,
      read_and_made-le (length system.tasks) t system.items is.items,
      extra-le system.tasks (t - 1) inside,
      is.total,
    )

pub overflow_add-result : goal.overflow_add-result
overflow_add-result c =
    rw c.tasks.ensures.value (omega (arith, whole-le c.args.system.now c.args.task c.keeps.ensures c.requires.task, c.requires.makes))

pub overflow_add-result-2 : goal.overflow_add-result-2
overflow_add-result-2 c =
    rw c.tasks.ensures.value (omega (arith, whole-le c.args.system.now c.args.task c.keeps.ensures c.requires.task, c.requires.makes, c.requires.reads))

pub returns-clause-within : goal.returns-clause-within
returns-clause-within c =
    rw c.tasks.ensures.value (omega (arith, whole-le c.args.system.now c.args.task c.keeps.ensures c.requires.task, c.requires.makes, c.requires.reads))
