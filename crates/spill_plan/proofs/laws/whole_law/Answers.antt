use Rattle.spill_plan.proofs.WholeMemory.{whole-memory}
use Rattle.spill_plan.proofs.laws.whole_law.Goals as goal

pub returns : goal.returns
returns c = whole-memory
