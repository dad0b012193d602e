use Rattle.std.proofs.Common.{◌≡◌, ◌++◌, map, take}
use Rattle.graphs.specs.Graph.{arc_between}
use Rattle.shared_reduce.proofs.uses.push_arcs.Given as goal

abbrev pub invariant-loop-reader : goal.invariant-loop-reader
invariant-loop-reader l = l.arcs.items ≡ l.initial.arcs.items ++ map (arc_between l.from) (take l.reader-index l.readers)
