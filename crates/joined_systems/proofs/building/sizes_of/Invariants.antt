use Rattle.std.proofs.Common.{◌≡◌, take}
use Rattle.std.specs.List.{sum_by}
use Rattle.shared_systems.specs.Bounds.{shared_size}
use Rattle.joined_systems.proofs.building.sizes_of.Given as goal

abbrev pub invariant-loop-i : goal.invariant-loop-i
invariant-loop-i l = l.total ≡ sum_by shared_size (take l.i l.items)
