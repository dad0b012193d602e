use Rattle.std.proofs.Common.{◌≡◌, ◌++◌, map, take}
use Rattle.elimination.specs.Quotients.{at}
use Rattle.elimination.proofs.switch.Rest.eliminate.Given as goal

abbrev pub invariant-loop-k : goal.invariant-loop-k
invariant-loop-k l = l.gone.items ≡ l.fn.gone.items ++ map (at l.vertices.items) (take l.k-index l.k-items)
