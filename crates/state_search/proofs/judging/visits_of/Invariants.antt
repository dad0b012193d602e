use Rattle.std.proofs.Common.{◌≡◌, take}
use Rattle.std.specs.List.{sum_by}
use Rattle.state_search.specs.Shown.{visit_count}
use Rattle.state_search.proofs.judging.visits_of.Given as goal

abbrev pub invariant-loop-i : goal.invariant-loop-i
invariant-loop-i l = l.visits ≡ sum_by visit_count (take l.i l.items)
