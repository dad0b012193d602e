use Rattle.std.proofs.Common.{◌≡◌}
use Rattle.mp_system_tests.proofs.tests.memory_step_by_step.Given as goal

abbrev pub invariant-loop-task : goal.invariant-loop-task
invariant-loop-task g l = l.replay.system ≡ record { tasks = l.system-inside.tasks.items; items = l.system-inside.items.items }
