use Rattle.elim_tree.proofs.RowSubtrees.{later_rows}
use Rattle.elim_tree.proofs.laws.no_earlier_row.Goals as goal

pub returns : goal.returns
returns c = later_rows
