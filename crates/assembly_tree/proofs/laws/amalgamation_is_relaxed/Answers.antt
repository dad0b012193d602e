use Rattle.assembly_tree.proofs.RelaxationLemmas.{relaxed}
use Rattle.assembly_tree.proofs.laws.amalgamation_is_relaxed.Goals as goal

pub returns : goal.returns
returns c = relaxed
