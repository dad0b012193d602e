use Rattle.sp_cuts.proofs.Kept.{within_peak}
use Rattle.sp_cuts.proofs.laws.within_peak.Goals as goal

pub returns : goal.returns
returns c = within_peak c.all.ensures
