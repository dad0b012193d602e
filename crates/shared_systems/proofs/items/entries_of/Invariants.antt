use Rattle.std.proofs.Common.{◌≡◌, take}
use Rattle.std.specs.List.{sum_by}
use Rattle.shared_systems.specs.Given.{count_given}
use Rattle.shared_systems.specs.Stored.{entries_of}
use Rattle.shared_systems.proofs.items.entries_of.Given as goal

abbrev pub invariant-loop-item : goal.invariant-loop-item
invariant-loop-item l = record {
  entries_are : l.entries.items ≡ entries_of 0 (take l.item-index l.items);
  end_is : l.end ≡ sum_by count_given (take l.item-index l.items);
}
