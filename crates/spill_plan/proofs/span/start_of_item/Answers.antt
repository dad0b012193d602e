use Rattle.std.proofs.Common.{arith}
use Rattle.spill_plan.proofs.span.start_of_item.Goals as goal

pub bounds-steps-task : goal.bounds-steps-task
bounds-steps-task c = let task = c.requires c.in-Some.task c.in-Some.is in omega (arith, task.0, task.1)

pub overflow_add-result : goal.overflow_add-result
overflow_add-result c = omega (arith, (c.requires c.in-Some.task c.in-Some.is).2)

pub overflow_sub-result : goal.overflow_sub-result
overflow_sub-result c = let task = c.requires c.in-Some.task c.in-Some.is in omega (arith, task.0)
