use Rattle.std.proofs.Common.{◌≡◌, take}
use Rattle.shared_systems.specs.Woven.{woven}
use Rattle.shared_systems.proofs.weaving.mixed_of.Given as goal

abbrev pub invariant-loop-i : goal.invariant-loop-i
invariant-loop-i l = l.mixed.items ≡ woven l.system (take l.i l.order)
