use Rattle.bounded_plan_files.proofs.LengthLemmas.{printed-within}
use Rattle.bounded_plan_files.proofs.laws.printed_length.Goals as goal

pub returns : goal.returns
returns c = printed-within
