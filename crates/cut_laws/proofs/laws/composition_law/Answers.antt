use Rattle.cut_laws.proofs.Composing.{hold_stands, series_stands, par_stands}
use Rattle.cut_laws.proofs.laws.composition_law.Goals as goal

pub returns : goal.returns
returns c = let laws = c.below.ensures in record {
  hold = hold_stands laws;
  series = series_stands laws;
  par = par_stands laws;
}
