use Rattle.assembly_tree.proofs.FrontLemmas.{fronts_tree}
use Rattle.assembly_tree.proofs.laws.fronts_are_tree.Goals as goal

pub returns : goal.returns
returns c = fronts_tree
