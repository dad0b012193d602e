use Rattle.assembly_tree.proofs.SupernodeLemmas.{are_assembly}
use Rattle.assembly_tree.proofs.laws.supernodes_are_assembly.Goals as goal

pub returns : goal.returns
returns c = are_assembly
