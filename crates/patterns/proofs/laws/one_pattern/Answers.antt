use Rattle.patterns.proofs.SameRows.{plain_pattern, same_patterns}
use Rattle.patterns.proofs.laws.one_pattern.Goals as goal

pub returns-clause-some : goal.returns-clause-some
returns-clause-some c = λ order pairs some small within. plain_pattern order pairs within some small

pub returns-clause-one : goal.returns-clause-one
returns-clause-one c = same_patterns
