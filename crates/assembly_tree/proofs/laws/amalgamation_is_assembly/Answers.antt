use Rattle.assembly_tree.proofs.AmalgamationLemmas.{amalgamated_assembly}
use Rattle.assembly_tree.proofs.laws.amalgamation_is_assembly.Goals as goal

pub returns : goal.returns
returns c = amalgamated_assembly
