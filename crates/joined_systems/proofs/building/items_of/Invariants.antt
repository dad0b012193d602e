use Rattle.std.proofs.Common.{◌≡◌, [], length, take}
use Rattle.std.specs.List.{flat_map}
use Rattle.joined_systems.specs.Joined.{joined_item}
use Rattle.joined_systems.proofs.building.items_of.Given as goal

abbrev pub invariant-loop-i : goal.invariant-loop-i
invariant-loop-i l = l.made ≡ record { items = flat_map (joined_item (length l.joins) l.joins) (take l.i l.items); waiting = [] }
