use Rattle.std.proofs.Common.{◌≡◌, ◌+◌, All, length}
use Rattle.fences.specs.Before.{IsReading}
use Rattle.fences.proofs.implied.push_readings.Given as goal

abbrev pub invariant-loop-reader : goal.invariant-loop-reader
invariant-loop-reader l = record {
  all : All (IsReading l.system) l.all.items;
  many : length l.all.items ≡ length l.initial.all.items + l.reader-index;
}
