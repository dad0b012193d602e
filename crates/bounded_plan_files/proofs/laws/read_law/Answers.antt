use Rattle.bounded_plan_files.proofs.FormLemmas.{reads-is_plan}
use Rattle.bounded_plan_files.proofs.laws.read_law.Goals as goal

pub returns : goal.returns
returns c = reads-is_plan
