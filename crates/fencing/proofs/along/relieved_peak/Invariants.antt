use Rattle.std.proofs.Common.{◌≡◌, ℕ, ◌≤◌, max, drop, take}
use Rattle.mp_system.specs.Memory.{peak_from, peak_of, stands_in, state_memory}
use Rattle.mp_system.specs.Replay.{has_run}
use Rattle.fences.specs.Workers.{relieved}
use Rattle.fencing.proofs.along.relieved_peak.Given as goal

abbrev pub invariant-loop-task : goal.invariant-loop-task
invariant-loop-task l = record {
  system : l.replay.system ≡ l.system;
  ran : (u : ℕ) → has_run l.replay u ≡ stands_in (take l.task-index l.order) u;
  least : state_memory l.system (stands_in (take l.task-index l.order)) ≤ l.peak;
  whole : max l.peak (peak_from (relieved l.fn.room l.system) (take l.task-index l.order) (drop l.task-index l.order))
      ≡ peak_of (relieved l.fn.room l.system) l.order;
}
