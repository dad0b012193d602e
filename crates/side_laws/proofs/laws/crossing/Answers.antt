use Rattle.side_laws.proofs.Crossing.{net_crossing, rising_crossing, lowest_through, top_through}
use Rattle.side_laws.proofs.laws.crossing.Goals as goal

pub returns : goal.returns
returns c = record { net = net_crossing; rising = rising_crossing; lowest = lowest_through; top = top_through }
