use Rattle.std.proofs.Common.{◌≡◌, take}
use Rattle.carried_graphs.specs.Carried.{carried_arcs}
use Rattle.carried_graphs.proofs.carrying.carried_arcs.Given as goal

abbrev pub invariant-loop-i : goal.invariant-loop-i
invariant-loop-i l = l.arcs.items ≡ carried_arcs (take l.i l.lasts) (take l.i l.items)
