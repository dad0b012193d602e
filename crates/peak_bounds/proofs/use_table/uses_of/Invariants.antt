use Rattle.std.proofs.Common.{◌≡◌, map, take}
use Rattle.peak_bounds.specs.Moments.{uses_of}
use Rattle.peak_bounds.specs.Judging.{maker_of, taker_of}
use Rattle.peak_bounds.proofs.use_table.uses_of.Given as goal

abbrev pub invariant-loop-i : goal.invariant-loop-i
invariant-loop-i l = record {
  makers : l.makers.items ≡ map maker_of (uses_of (take l.i l.items));
  takers : l.takers.items ≡ map taker_of (uses_of (take l.i l.items));
}
