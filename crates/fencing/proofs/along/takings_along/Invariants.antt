use Rattle.std.proofs.Common.{◌≡◌, ℕ, ◌+◌, length, take}
use Rattle.mp_system.specs.Memory.{stands_in}
use Rattle.mp_system.specs.Replay.{has_run}
use Rattle.fences.specs.Workers.{relieved}
use Rattle.fencing.specs.Takings.{IsLedger}
use Rattle.fencing.proofs.along.takings_along.Given as goal

abbrev pub invariant-loop-task : goal.invariant-loop-task
invariant-loop-task l = record {
  system : l.replay.system ≡ l.system;
  places : length l.ledger.places.items ≡ length l.system.tasks + 1;
  ran : (u : ℕ) → has_run l.replay u ≡ stands_in (take l.task-index l.order) u;
  is_ledger : IsLedger (relieved l.fn.room l.system) l.fn.bound (take l.task-index l.order) l.ledger.pool l.ledger.pieces.items l.ledger.takings.items;
}
