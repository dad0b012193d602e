use Rattle.std.proofs.Common.{◌≡◌, take}
use Rattle.judging.specs.Numbered.{task_positions}
use Rattle.judging.proofs.numbered.task_positions.Given as goal

abbrev pub invariant-loop-done : goal.invariant-loop-done
invariant-loop-done l = l.found.items ≡ task_positions 1 (take l.done l.terms)
