use Rattle.std.proofs.Common.{◌≡◌, ◌+◌, take}
use Rattle.std.specs.List.{sum_by}
use Rattle.bounded_plans.specs.BoundedPlan.{own_count}
use Rattle.bounded_plans.proofs.within.have_at_most.Given as goal

abbrev pub invariant-loop-blocker : goal.invariant-loop-blocker
invariant-loop-blocker l = l.left + sum_by own_count (take l.blocker-index l.blockers) ≡ l.most
