use Rattle.std.proofs.Common.{take}
use Rattle.shared_systems.proofs.OneReaderItems.{IsMade}
use Rattle.shared_systems.proofs.one_reader.items_of_system.Given as goal

abbrev pub invariant-loop-item : goal.invariant-loop-item
invariant-loop-item l = IsMade (take l.item-index l.items) l.entries.items l.readers.items
