use Rattle.std.proofs.Common.{◌≡◌, ℕ, ◌≤◌, take}
use Rattle.limits.specs.Limits.{most_total}
use Rattle.mp_system.specs.Memory.{stands_in}
use Rattle.mp_system.specs.Replay.{has_run}
use Rattle.fencing.proofs.along.greatest_need.Given as goal

abbrev pub invariant-loop-task : goal.invariant-loop-task
invariant-loop-task l = record {
  system : l.replay.system ≡ l.system;
  ran : (u : ℕ) → has_run l.replay u ≡ stands_in (take l.task-index l.order) u;
  within : l.greatest ≤ most_total;
}
