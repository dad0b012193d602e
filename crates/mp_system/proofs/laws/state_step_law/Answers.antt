use Rattle.mp_system.proofs.Present.{state_step}
use Rattle.mp_system.proofs.laws.state_step_law.Goals as goal

pub returns : goal.returns
returns c = state_step
