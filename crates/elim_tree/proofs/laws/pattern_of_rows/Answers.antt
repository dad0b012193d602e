use Rattle.elim_tree.proofs.Growth.{pattern_by_rows, within_by_rows}
use Rattle.elim_tree.proofs.laws.pattern_of_rows.Goals as goal

pub returns-clause-pattern : goal.returns-clause-pattern
returns-clause-pattern c = pattern_by_rows

pub returns-clause-within : goal.returns-clause-within
returns-clause-within c = within_by_rows
