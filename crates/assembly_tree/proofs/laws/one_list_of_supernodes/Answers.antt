use Rattle.assembly_tree.proofs.UniqueLemmas.{one_assembly}
use Rattle.assembly_tree.proofs.laws.one_list_of_supernodes.Goals as goal

pub returns : goal.returns
returns c = one_assembly
