use Rattle.fences.proofs.Progress.{never_stops}
use Rattle.fences.proofs.laws.progress_law.Goals as goal

pub returns : goal.returns
returns c = never_stops c.ready_law.ensures
