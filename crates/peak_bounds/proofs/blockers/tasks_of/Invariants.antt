use Rattle.std.proofs.Common.{◌≡◌, map, take}
use Rattle.peak_bounds.specs.Evidence.{task_of}
use Rattle.peak_bounds.proofs.blockers.tasks_of.Given as goal

abbrev pub invariant-loop-blocker : goal.invariant-loop-blocker
invariant-loop-blocker l = l.tasks.items ≡ map task_of (take l.blocker-index l.blockers)
