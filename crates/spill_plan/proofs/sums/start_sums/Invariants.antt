use Rattle.std.proofs.Common.{◌≡◌, ℕ, ◌+◌, ◌≤◌, vec_len, take}
use Rattle.std.specs.Prelude.{slice_index}
use Rattle.spill_plan.specs.Spans.{start_sum}
use Rattle.spill_plan.proofs.sums.start_sums.Given as goal

abbrev pub invariant-loop-span : goal.invariant-loop-span
invariant-loop-span l = record {
  len : vec_len l.sums ≡ l.steps + 1;
  sums : (k : ℕ) → k ≤ l.steps → slice_index l.sums.items k ≡ start_sum k (take l.span-index l.spans);
}
