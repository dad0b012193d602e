use Rattle.std.proofs.Common.{◌≡◌, ℕ, ◌+◌, ◌≤◌, vec_len, take}
use Rattle.std.specs.Prelude.{slice_index}
use Rattle.spill_plan.specs.Spans.{end_sum}
use Rattle.spill_plan.proofs.sums.end_sums.Given as goal

abbrev pub invariant-loop-span : goal.invariant-loop-span
invariant-loop-span l = record {
  len : vec_len l.sums ≡ l.steps + 1;
  sums : (k : ℕ) → k ≤ l.steps → slice_index l.sums.items k ≡ end_sum k (take l.span-index l.spans);
}
