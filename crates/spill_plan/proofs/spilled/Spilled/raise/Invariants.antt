use Rattle.std.proofs.Common.{◌≡◌, ℕ, ◌-◌, ◌≤◌, length}
use Rattle.std.specs.Prelude.{slice_index}
use Rattle.spill_plan.specs.Spans.{kept_at}
use Rattle.spill_plan.specs.Spilled.{AreStartsByRank, AreLeftAt, IsRaising}
use Rattle.spill_plan.proofs.spilled.Spilled.raise.Given as goal

abbrev pub invariant-loop-missing : goal.invariant-loop-missing
invariant-loop-missing l = record {
  below : l.missing ≤ l.over;
  none : l.missing ≡ l.over → l.self.amounts.items ≡ l.fn.self.amounts.items;
  raising : (turn : ℕ) × IsRaising l.spans l.step (slice_index l.fn.self.amounts.items) (slice_index l.self.amounts.items)
      (l.over - l.missing) turn;
  len : length l.self.amounts.items ≡ length l.spans;
  len_leaving : length l.self.leaving.items ≡ length l.fn.self.leaving.items;
  starts : AreStartsByRank l.spans l.ranks l.self.amounts.items l.self.starts;
  left : AreLeftAt l.spans l.self.amounts.items l.self.leaving.items;
  room : l.missing ≤ kept_at l.step (slice_index l.self.amounts.items) l.spans;
}

abbrev pub decreases-loop-missing : goal.decreases-loop-missing
decreases-loop-missing l = l.missing
