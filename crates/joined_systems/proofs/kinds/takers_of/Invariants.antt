use Rattle.std.proofs.Common.{◌≡◌, take}
use Rattle.joined_systems.specs.Kinds.{takers}
use Rattle.joined_systems.proofs.kinds.takers_of.Given as goal

abbrev pub invariant-loop-i : goal.invariant-loop-i
invariant-loop-i l = l.takers.items ≡ takers (take l.i l.items)
