use Rattle.mp_gen.proofs.RoomLemmas.{workflow_of-terms}
use Rattle.mp_gen.proofs.TreeLemmas.{tree_of-tree}
use Rattle.mp_gen.proofs.laws.made_inputs.Goals as goal

pub returns-clause-tree : goal.returns-clause-tree
returns-clause-tree c = tree_of-tree

pub returns-clause-workflow : goal.returns-clause-workflow
returns-clause-workflow c = workflow_of-terms
