use Rattle.shared_systems.proofs.PeakLimits.{peak_small}
use Rattle.shared_systems.proofs.laws.peak_limit_law.Goals as goal

pub returns : goal.returns
returns c = λ system order is traversal. peak_small system is order traversal
