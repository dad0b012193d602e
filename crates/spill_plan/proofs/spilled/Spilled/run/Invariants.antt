use Rattle.std.proofs.Common.{◌≡◌, ◌+◌, length}
use Rattle.std.specs.Prelude.{slice_index}
use Rattle.spill_plan.specs.Spans.{IsSpilledAfter}
use Rattle.spill_plan.specs.Spilled.{IsSpilledState, between_at}
use Rattle.spill_plan.proofs.spilled.Spilled.run.Given as goal

abbrev pub invariant-loop-step : goal.invariant-loop-step
invariant-loop-step l = record {
  len_leaving : length l.self.leaving.items ≡ length l.needs + 1;
  run : IsSpilledAfter l.spans (length l.needs) (slice_index l.needs) l.bound l.step (slice_index l.self.amounts.items);
  state : IsSpilledState l.spans l.ranks l.self;
  held_is : l.held ≡ between_at l.step (slice_index l.self.amounts.items) l.spans;
}
