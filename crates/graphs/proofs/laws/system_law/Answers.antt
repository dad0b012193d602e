use Rattle.graphs.proofs.SystemLemmas.{completed-is_system}
use Rattle.graphs.proofs.laws.system_law.Goals as goal

pub returns : goal.returns
returns c = completed-is_system
