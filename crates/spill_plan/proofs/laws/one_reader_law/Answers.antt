use Rattle.spill_plan.proofs.OneReader.{to-least, from-least}
use Rattle.spill_plan.proofs.laws.one_reader_law.Goals as goal

pub returns : goal.returns
returns c = λ system order bound amounts volume. (to-least system order bound amounts volume, from-least system order bound amounts volume)
