use Rattle.ordering.proofs.FillLemmas.{parent_first, one_parent}
use Rattle.ordering.proofs.laws.parent_is_first.Goals as goal

pub returns-clause-parent : goal.returns-clause-parent
returns-clause-parent c = parent_first

pub returns-clause-one : goal.returns-clause-one
returns-clause-one c = one_parent
