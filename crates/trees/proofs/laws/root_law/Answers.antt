use Rattle.std.proofs.Common.{length}
use Rattle.trees.proofs.RootLemmas.{steps-lead}
use Rattle.trees.proofs.laws.root_law.Goals as goal

pub returns-clause-some : goal.returns-clause-some
returns-clause-some c = λ nodes v leads. (length nodes, leads)

pub returns-clause-steps : goal.returns-clause-steps
returns-clause-steps c = λ nodes v k parents node. steps-lead nodes parents v node k
