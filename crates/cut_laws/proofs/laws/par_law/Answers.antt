use Rattle.cut_laws.proofs.Tops.{some_reaches, par_top, par_meets, par_rises}
use Rattle.cut_laws.proofs.laws.par_law.Goals as goal

pub returns : goal.returns
returns c = let laws = c.below.ensures.sides in record {
  meets = par_meets laws;
  rising = par_rises laws;
  some = λ d limit cs levels are le lt. some_reaches laws d limit cs levels are le lt;
  together = λ d cs rising start. par_top laws d cs rising start;
}
