use Rattle.std.proofs.Common.{◌≡◌, take}
use Rattle.shared_systems.specs.Bounds.{use_arcs}
use Rattle.shared_reduce.proofs.uses.use_arcs.Given as goal

abbrev pub invariant-loop-i : goal.invariant-loop-i
invariant-loop-i l = l.arcs.items ≡ use_arcs (take l.i l.items)
