use Rattle.std.proofs.Common.{◌≡◌, ◌-◌, ◌++◌, map}
use Rattle.std.specs.List.{range_with_len}
use Rattle.joined_systems.proofs.JoinCode.{join_with}
use Rattle.joined_systems.proofs.building.tasks_of.Given as goal

abbrev pub invariant-loop-k : goal.invariant-loop-k
invariant-loop-k l = l.made.items ≡ l.tasks ++ map (join_with l.shares) (range_with_len 1 (l.k - 1))
