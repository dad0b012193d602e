use Rattle.std.proofs.Common.{◌≡◌, ℕ, ◌<◌, ◌≤◌, length}
use Rattle.std.specs.Prelude.{slice_index}
use Rattle.min_tree.specs.Least.{greatest}
use Rattle.spill_plan.specs.Spans.{span_at}
use Rattle.spill_plan.proofs.spilled.start_tree.Given as goal

abbrev pub invariant-loop-rank : goal.invariant-loop-rank
invariant-loop-rank l = record {
  len : length l.starts ≡ length l.spans;
  left : (r : ℕ) → r < l.rank → 0 < (span_at l.spans (slice_index l.ranks r)).size → slice_index l.starts r
      ≡ (span_at l.spans (slice_index l.ranks r)).start;
  full : (r : ℕ) → r < l.rank → (span_at l.spans (slice_index l.ranks r)).size ≤ 0 → slice_index l.starts r ≡ greatest;
  later : (r : ℕ) → l.rank ≤ r → r < length l.starts → slice_index l.starts r ≡ greatest;
}
