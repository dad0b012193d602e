use Rattle.joined_systems.proofs.JoinNumbers.{safe}
use Rattle.joined_systems.proofs.laws.safe_law.Goals as goal

pub returns : goal.returns
returns c = safe
