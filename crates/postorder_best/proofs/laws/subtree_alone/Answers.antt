use Rattle.postorder_best.proofs.Theorem.{subtree_peak}
use Rattle.postorder_best.proofs.laws.subtree_alone.Goals as goal

pub returns : goal.returns
returns c = λ nodes peak row x order tree each node listed.
    subtree_peak nodes tree peak row each (c.tree_system.ensures.need nodes) x order node listed
