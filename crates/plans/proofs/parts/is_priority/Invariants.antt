use Rattle.std.proofs.Common.{◌≡◌, take}
use Rattle.permutations.specs.Perm.{IsPart}
use Rattle.plans.proofs.parts.is_priority.Given as goal

abbrev pub invariant-loop-task : goal.invariant-loop-task
invariant-loop-task l = record {
  ranked : l.ranked ≡ record { n = l.tasks; numbers = take l.task-index l.priority };
  part : IsPart l.tasks (take l.task-index l.priority);
}
