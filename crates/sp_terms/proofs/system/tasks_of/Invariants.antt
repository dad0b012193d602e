use Rattle.std.proofs.Common.{◌≡◌, take}
use Rattle.sp_terms.specs.Pending.{tasks_in}
use Rattle.sp_terms.proofs.system.tasks_of.Given as goal

abbrev pub invariant-loop-position : goal.invariant-loop-position
invariant-loop-position l = l.tasks.items ≡ tasks_in (take l.position-index l.positions)
