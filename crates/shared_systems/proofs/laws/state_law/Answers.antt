use Rattle.std.proofs.Common.{length, ◌+◌, arith}
use Rattle.shared_systems.proofs.States.{memory_below, need_same}
use Rattle.shared_systems.proofs.WovenOrders.{needs_nothing, task_count}
use Rattle.shared_systems.proofs.laws.state_law.Goals as goal

pub returns-clause-memory : goal.returns-clause-memory
returns-clause-memory c = λ system done closed. memory_below done (length system.tasks + 1) system.items closed

pub returns-clause-need : goal.returns-clause-need
returns-clause-need c = need_same

pub returns-clause-collector : goal.returns-clause-collector
returns-clause-collector c = λ system v within task above.
    (needs_nothing system within.items v (omega arith) (omega (arith, task.1, task_count system within.items))).0
