use Rattle.std.proofs.Common.{◌≡◌, take}
use Rattle.std.specs.List.{sum_by}
use Rattle.mp_system.specs.System.{extra_size}
use Rattle.joined_systems.proofs.building.extras_of.Given as goal

abbrev pub invariant-loop-i : goal.invariant-loop-i
invariant-loop-i l = l.total ≡ sum_by extra_size (take l.i l.tasks)
