use Rattle.elim_tree.proofs.Growth.{pattern_by_columns, within_by_columns}
use Rattle.elim_tree.proofs.laws.renumbered_pattern.Goals as goal

pub returns-clause-pattern : goal.returns-clause-pattern
returns-clause-pattern c = pattern_by_columns

pub returns-clause-within : goal.returns-clause-within
returns-clause-within c = within_by_columns
