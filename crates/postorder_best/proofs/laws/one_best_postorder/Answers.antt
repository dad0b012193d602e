use Rattle.postorder_best.proofs.OneBest.{one_best}
use Rattle.postorder_best.proofs.laws.one_best_postorder.Goals as goal

pub returns : goal.returns
returns c = one_best
