use Rattle.mp_system.proofs.Peaks.{along-le-peak, peak-along}
use Rattle.mp_system.proofs.laws.peak_law.Goals as goal

pub returns-clause-bound : goal.returns-clause-bound
returns-clause-bound c = along-le-peak

pub returns-clause-attained : goal.returns-clause-attained
returns-clause-attained c = peak-along
