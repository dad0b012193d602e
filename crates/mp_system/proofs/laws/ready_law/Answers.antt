use Rattle.mp_system.proofs.Present.{still_ready}
use Rattle.mp_system.proofs.laws.ready_law.Goals as goal

pub returns : goal.returns
returns c = λ system done later v more. still_ready done later more v system.items
