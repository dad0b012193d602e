use Rattle.std.proofs.Common.{◌≡◌, take}
use Rattle.joined_systems.specs.Joins.{join_count}
use Rattle.joined_systems.proofs.building.count_of.Given as goal

abbrev pub invariant-loop-join : goal.invariant-loop-join
invariant-loop-join l = l.count ≡ join_count (take l.join-index l.joins)
