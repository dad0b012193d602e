use Rattle.side_laws.proofs.Lowest.{lowest_le, lowest_ge, lowest_monotone, lowest_passed, lowest_splits, stuck_by_last}
use Rattle.side_laws.proofs.Passing.{level_le_top, top_passes}
use Rattle.side_laws.proofs.laws.one_side.Goals as goal

pub returns : goal.returns
returns c = record {
  between = λ limit level ss. (lowest_ge limit level ss, lowest_le limit level ss);
  monotone = lowest_monotone;
  after_all = lowest_passed;
  stuck = lowest_splits;
  above = level_le_top;
  passes = top_passes;
  by_last = stuck_by_last;
}
