use Rattle.std.proofs.Common.{◌≡◌, ℕ, ◌-◌, ◌<◌, length}
use Rattle.std.specs.Prelude.{slice_index}
use Rattle.spill_plan.proofs.steps.steps_by_task.Given as goal

abbrev pub invariant-loop-step : goal.invariant-loop-step
invariant-loop-step l = record {
  len : length l.steps.items ≡ l.count;
  each : (k : ℕ) → k < l.step → slice_index l.steps.items (slice_index l.order k - 1) ≡ k;
}
