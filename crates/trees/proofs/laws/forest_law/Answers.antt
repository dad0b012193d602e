use Rattle.trees.proofs.ForestLemmas.{forest-some, forest-one, forest-each}
use Rattle.trees.proofs.laws.forest_law.Goals as goal

pub returns-clause-some : goal.returns-clause-some
returns-clause-some c = forest-some

pub returns-clause-one : goal.returns-clause-one
returns-clause-one c = forest-one

pub returns-clause-each : goal.returns-clause-each
returns-clause-each c = λ nodes f tree h. forest-each nodes tree f h
