use Rattle.std.proofs.Common.{◌≡◌, ◌++◌, map, take}
use Rattle.shared_systems.specs.Shared.{shared_item_at}
use Rattle.carried_graphs.specs.Carried.{reader_arc}
use Rattle.carried_graphs.proofs.carrying.push_arcs.Given as goal

abbrev pub invariant-loop-reader : goal.invariant-loop-reader
invariant-loop-reader l =
    l.arcs.items ≡ l.initial.arcs.items ++ map (reader_arc (shared_item_at l.items l.i) l.last) (take l.reader-index l.readers)
