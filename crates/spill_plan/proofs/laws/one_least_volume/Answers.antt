use Rattle.spill_plan.proofs.LeastAmounts.{one_volume}
use Rattle.spill_plan.proofs.laws.one_least_volume.Goals as goal

pub returns : goal.returns
returns c = one_volume
