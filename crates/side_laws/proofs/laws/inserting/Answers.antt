use Rattle.std.proofs.Common.{arith}
use Rattle.side_laws.proofs.Insert.{lowest_inserted}
use Rattle.side_laws.proofs.Merge.{total_inserted, inserted_comm}
use Rattle.side_laws.proofs.Levels.{rising_inserted}
use Rattle.side_laws.proofs.laws.inserting.Goals as goal

pub returns : goal.returns
returns c = record {
  net = λ s ss. omega (arith, total_inserted s ss);
  rising = rising_inserted;
  lowest = lowest_inserted;
  commute = inserted_comm;
}
