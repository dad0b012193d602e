use Rattle.carried_graphs.proofs.Following.{same_last}
use Rattle.carried_graphs.proofs.laws.one_last_reader.Goals as goal

pub returns : goal.returns
returns c = same_last
