use Rattle.trees.proofs.SystemLemmas.{tree_system, tree-inputs, tree-outputs, tree-need}
use Rattle.trees.proofs.laws.tree_system.Goals as goal

pub returns-clause-system : goal.returns-clause-system
returns-clause-system c = λ nodes tree. tree_system nodes tree

pub returns-clause-inputs : goal.returns-clause-inputs
returns-clause-inputs c = tree-inputs

pub returns-clause-outputs : goal.returns-clause-outputs
returns-clause-outputs c = tree-outputs

pub returns-clause-need : goal.returns-clause-need
returns-clause-need c = tree-need
