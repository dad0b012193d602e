use Rattle.side_laws.proofs.Passing.{are_stuck_at, is_least_together}
use Rattle.side_laws.proofs.Levels.{total_all, rising_merged, merged_one, all_levels}
use Rattle.side_laws.proofs.laws.merging.Goals as goal

pub returns : goal.returns
returns c = record {
  net = total_all;
  rising = rising_merged;
  one = merged_one;
  lowest = are_stuck_at;
  top = is_least_together;
  levels = all_levels;
}
