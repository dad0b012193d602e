use Rattle.mp_system.proofs.Present.{after-le-running}
use Rattle.mp_system.proofs.laws.running_law.Goals as goal

pub returns-clause-after : goal.returns-clause-after
returns-clause-after c = λ system done later v within task can adds. after-le-running system done later v can adds within task
