use Rattle.std.proofs.Common.{◌≡◌, ◌≤◌, ◌*◌, take}
use Rattle.std.specs.List.{sum_by}
use Rattle.limits.specs.Limits.{most_size}
use Rattle.mp_system.specs.System.{extra_size}
use Rattle.shared_systems.proofs.judged.extras_of.Given as goal

abbrev pub invariant-loop-i : goal.invariant-loop-i
invariant-loop-i l = record { sum : l.total ≡ sum_by extra_size (take l.i l.tasks); few : l.total ≤ l.i * most_size }
