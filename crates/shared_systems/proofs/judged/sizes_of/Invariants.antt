use Rattle.std.proofs.Common.{◌≡◌, ◌≤◌, ◌*◌, take}
use Rattle.std.specs.List.{sum_by}
use Rattle.limits.specs.Limits.{most_size}
use Rattle.shared_systems.specs.Bounds.{shared_size}
use Rattle.shared_systems.proofs.judged.sizes_of.Given as goal

abbrev pub invariant-loop-i : goal.invariant-loop-i
invariant-loop-i l = record { sum : l.total ≡ sum_by shared_size (take l.i l.items); few : l.total ≤ l.i * most_size }
