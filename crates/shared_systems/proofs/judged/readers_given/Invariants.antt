use Rattle.std.proofs.Common.{◌≡◌, ◌≤◌, ◌*◌, ◌^◌, take}
use Rattle.std.specs.List.{sum_by}
use Rattle.shared_systems.specs.Given.{count_given}
use Rattle.shared_systems.proofs.judged.readers_given.Given as goal

abbrev pub invariant-loop-i : goal.invariant-loop-i
invariant-loop-i l = record { sum : l.total ≡ sum_by count_given (take l.i l.items); few : l.total ≤ l.i * 2 ^ 32 }
