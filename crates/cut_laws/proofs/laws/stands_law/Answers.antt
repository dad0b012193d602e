use Rattle.cut_laws.proofs.Composing.{term_stands}
use Rattle.cut_laws.proofs.laws.stands_law.Goals as goal

pub returns : goal.returns
returns c = λ t n allowed. term_stands c.below.ensures t n allowed
