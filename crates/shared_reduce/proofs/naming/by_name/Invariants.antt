use Rattle.std.proofs.Common.{◌≡◌, map, take}
use Rattle.mp_system.specs.Renaming.{name_in}
use Rattle.shared_reduce.proofs.naming.by_name.Given as goal

abbrev pub invariant-loop-task : goal.invariant-loop-task
invariant-loop-task l = l.named.items ≡ map (name_in l.names) (take l.task-index l.order)
