use Rattle.equivalent_orders.proofs.Topological.{same_columns, same_parents, same_counts}
use Rattle.equivalent_orders.proofs.laws.topological_orders.Goals as goal

pub returns-clause-columns : goal.returns-clause-columns
returns-clause-columns c = same_columns

pub returns-clause-parents : goal.returns-clause-parents
returns-clause-parents c = same_parents

pub returns-clause-counts : goal.returns-clause-counts
returns-clause-counts c = same_counts
