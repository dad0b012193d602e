use Rattle.side_laws.proofs.Append.{total_appended, lowest_of_append, top_appended}
use Rattle.side_laws.proofs.Crossing.{rising_appended}
use Rattle.side_laws.proofs.laws.appending.Goals as goal

pub returns : goal.returns
returns c = record { net = total_appended; rising = rising_appended; lowest = lowest_of_append; top = top_appended }
