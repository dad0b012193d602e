use Rattle.std.proofs.Common.{◌≡◌, take}
use Rattle.joined_systems.specs.Kinds.{makers}
use Rattle.joined_systems.proofs.kinds.makers_of.Given as goal

abbrev pub invariant-loop-i : goal.invariant-loop-i
invariant-loop-i l = l.makers.items ≡ makers (take l.i l.items)
