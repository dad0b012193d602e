use Rattle.std.proofs.Common.{◌≡◌, take}
use Rattle.shared_reduce.specs.SharedTerm.{told}
use Rattle.reports.proofs.commands.carry.told_order.Given as goal

abbrev pub invariant-loop-task : goal.invariant-loop-task
invariant-loop-task l = l.named.items ≡ told l.tasks l.names (take l.task-index l.order)
