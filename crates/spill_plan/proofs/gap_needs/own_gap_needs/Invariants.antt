use Rattle.std.proofs.Common.{◌≡◌, ℕ, ◌<◌, vec_len}
use Rattle.std.specs.Prelude.{slice_index}
use Rattle.spill_plan.specs.Gaps.{own_gap_need}
use Rattle.spill_plan.proofs.gap_needs.own_gap_needs.Given as goal

abbrev pub invariant-loop-step : goal.invariant-loop-step
invariant-loop-step l = record {
  len : vec_len l.needs ≡ l.step;
  needs : (k : ℕ) → k < l.step → slice_index l.needs.items k ≡ own_gap_need l.system l.order k;
}
