use Rattle.std.proofs.Common.{◌≡◌, All, length, take}
use Rattle.std.specs.List.{sum_by}
use Rattle.shared_systems.specs.Bounds.{reader_count}
use Rattle.fences.specs.Before.{IsReading}
use Rattle.fences.proofs.implied.all_readings.Given as goal

abbrev pub invariant-loop-i : goal.invariant-loop-i
invariant-loop-i l = record {
  all : All (IsReading l.system) l.all.items;
  many : length l.all.items ≡ sum_by reader_count (take l.i l.system.items);
}
