use Rattle.std.proofs.Common.{map, take}
use Rattle.graphs.specs.Graph.{item_of_arc}
use Rattle.shared_systems.proofs.OneReaderItems.{IsMade}
use Rattle.shared_systems.proofs.one_reader.items_of_graph.Given as goal

abbrev pub invariant-loop-arc : goal.invariant-loop-arc
invariant-loop-arc l = IsMade (map item_of_arc (take l.arc-index l.arcs)) l.entries.items l.readers.items
