use Rattle.std.proofs.Common.{◌≡◌, take}
use Rattle.joined_systems.proofs.building.push_item.Given as goal

abbrev pub invariant-loop-reader : goal.invariant-loop-reader
invariant-loop-reader l = l.made ≡ record { items = l.initial.made.items; waiting = take l.reader-index l.readers }
