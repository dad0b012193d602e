use Rattle.shared_systems.proofs.Systems.{collected_within}
use Rattle.shared_systems.proofs.laws.system_law.Goals as goal

pub returns : goal.returns
returns c = collected_within
