use Rattle.std.proofs.Common.{◌≡◌, ◌+◌, take}
use Rattle.std.specs.Prelude.{count_by}
use Rattle.shared_systems.specs.Collected.{is_shared, items_from}
use Rattle.shared_systems.proofs.collecting.items_of.Given as goal

abbrev pub invariant-loop-i : goal.invariant-loop-i
invariant-loop-i l = record {
  items_are : l.items.items ≡ items_from l.first (take l.i l.all);
  next_is : l.next ≡ l.first + count_by is_shared (take l.i l.all);
}
