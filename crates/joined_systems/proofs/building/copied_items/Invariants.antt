use Rattle.std.proofs.Common.{◌≡◌, [], take}
use Rattle.joined_systems.proofs.building.copied_items.Given as goal

abbrev pub invariant-loop-i : goal.invariant-loop-i
invariant-loop-i l = l.made ≡ record { items = take l.i l.items; waiting = [] }
