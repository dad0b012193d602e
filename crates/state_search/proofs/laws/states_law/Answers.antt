use Rattle.state_search.proofs.Reaches.{none_below}
use Rattle.state_search.proofs.laws.states_law.Goals as goal

pub returns : goal.returns
returns c = λ system bound most order is shown traversal. none_below system bound is shown.none.start order traversal
