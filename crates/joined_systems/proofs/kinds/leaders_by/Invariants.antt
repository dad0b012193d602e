use Rattle.std.proofs.Common.{◌≡◌, length}
use Rattle.joined_systems.proofs.KindSteps.{Firsts}
use Rattle.joined_systems.proofs.kinds.leaders_by.Given as goal

abbrev pub invariant-loop-v : goal.invariant-loop-v
invariant-loop-v l = record { room : length l.firsts.items ≡ l.most; are : Firsts l.kinds l.firsts.items l.leaders.items l.v }
