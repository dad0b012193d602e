use Rattle.std.proofs.Common.{◌≡◌, take}
use Rattle.ordering.proofs.minimum_degree.perm_of.Given as goal

abbrev pub invariant-loop-vertex : goal.invariant-loop-vertex
invariant-loop-vertex l = l.order ≡ record { n = l.n; numbers = take l.vertex-index l.list }
