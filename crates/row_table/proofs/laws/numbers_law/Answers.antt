use Rattle.row_table.proofs.Keys.{each-number, filter-numbers}
use Rattle.row_table.proofs.laws.numbers_law.Goals as goal

pub returns-clause-each : goal.returns-clause-each
returns-clause-each c = each-number

pub returns-clause-filtered : goal.returns-clause-filtered
returns-clause-filtered c = filter-numbers
