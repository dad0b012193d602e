use Rattle.ordering.proofs.FillLemmas.{without_0}
use Rattle.ordering.proofs.laws.nothing_of_0.Goals as goal

pub returns : goal.returns
returns c = without_0
