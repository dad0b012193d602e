use Rattle.spill_plan.proofs.LeastGaps.{one_gap_volume}
use Rattle.spill_plan.proofs.laws.one_least_gap_volume.Goals as goal

pub returns : goal.returns
returns c = one_gap_volume
