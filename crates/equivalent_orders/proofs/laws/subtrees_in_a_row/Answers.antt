use Rattle.equivalent_orders.proofs.InARow.{in_a_row}
use Rattle.equivalent_orders.proofs.laws.subtrees_in_a_row.Goals as goal

pub returns : goal.returns
returns c = in_a_row
