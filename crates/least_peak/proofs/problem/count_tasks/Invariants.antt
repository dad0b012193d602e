use Rattle.std.proofs.Common.{◌≡◌, take}
use Rattle.std.specs.List.{sum_by}
use Rattle.sp_terms.specs.Values.{added_tasks}
use Rattle.least_peak.proofs.problem.count_tasks.Given as goal

abbrev pub invariant-loop-done : goal.invariant-loop-done
invariant-loop-done l = l.count ≡ sum_by added_tasks (take l.done l.terms)
