use Rattle.std.proofs.Common.{◌≡◌, take}
use Rattle.std.specs.List.{sum_by}
use Rattle.shared_systems.specs.Bounds.{reader_count}
use Rattle.joined_systems.proofs.building.uses_of.Given as goal

abbrev pub invariant-loop-i : goal.invariant-loop-i
invariant-loop-i l = l.total ≡ sum_by reader_count (take l.i l.items)
