use Rattle.ordering.proofs.FillLemmas.{filled_is}
use Rattle.ordering.proofs.laws.filling_is_elimination.Goals as goal

pub returns : goal.returns
returns c = filled_is
