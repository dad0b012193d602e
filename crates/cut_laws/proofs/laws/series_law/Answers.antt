use Rattle.cut_laws.proofs.Tops.{in_first, in_second, series_meets, series_rises}
use Rattle.cut_laws.proofs.laws.series_law.Goals as goal

pub returns : goal.returns
returns c = let laws = c.below.ensures.sides in record {
  meets = series_meets laws;
  rising = series_rises laws;
  first = λ a b task hill ea eb final initial le. in_first laws a b task hill ea eb final initial le;
  second = λ a b task hill ea eb final initial lt. in_second laws a b task hill ea eb final initial lt;
}
