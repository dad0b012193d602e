use Rattle.carried_graphs.proofs.Following.{stands_before}
use Rattle.carried_graphs.proofs.laws.order_law.Goals as goal

pub returns : goal.returns
returns c = stands_before
