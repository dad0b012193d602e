use Rattle.std.proofs.Common.{◌≡◌, ◌++◌, take}
use Rattle.std.specs.Prelude.{replicate, count_by}
use Rattle.shared_systems.specs.Collected.{is_shared, collector}
use Rattle.shared_systems.proofs.collecting.tasks_of.Given as goal

abbrev pub invariant-loop-i : goal.invariant-loop-i
invariant-loop-i l = l.made.items ≡ l.tasks ++ replicate (count_by is_shared (take l.i l.all)) collector
