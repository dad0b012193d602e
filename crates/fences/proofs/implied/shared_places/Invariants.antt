use Rattle.std.proofs.Common.{◌≡◌, ◌<◌, All, length, map, take}
use Rattle.std.specs.List.{filter}
use Rattle.shared_systems.specs.Shared.{shared_item_at}
use Rattle.shared_systems.specs.Collected.{is_shared}
use Rattle.fences.proofs.implied.shared_places.Given as goal

abbrev pub invariant-loop-i : goal.invariant-loop-i
invariant-loop-i l = record {
  inside : All (λ i. i < length l.items) l.places.items;
  items_are : map (shared_item_at l.items) l.places.items ≡ filter is_shared (take l.i l.items);
}
