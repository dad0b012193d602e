use Rattle.sp_cuts.proofs.Unnamed.{same_numbers}
use Rattle.sp_cuts.proofs.laws.without_names.Goals as goal

pub returns : goal.returns
returns c = same_numbers c.all.ensures
