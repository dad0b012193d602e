use Rattle.std.proofs.Common.{◌≡◌, ◌*◌, take, pos, neg_ℤ}
use Rattle.std.specs.Prelude.{◌≤ℤ◌}
use Rattle.limits.specs.Limits.{most_total}
use Rattle.mp_system.specs.Replay.{is_marked}
use Rattle.peak_bounds.specs.Moments.{uses_of, is_held_for, lowered_where}
use Rattle.peak_bounds.proofs.levels.held_sum.Given as goal

abbrev pub invariant-loop-k : goal.invariant-loop-k
invariant-loop-k l = record {
  sum : l.sum ≡ lowered_where (is_held_for (is_marked l.done)) (take l.k (uses_of l.system.items)) (take l.k l.lowered);
  low : neg_ℤ (pos (most_total * l.k)) ≤ℤ l.sum;
  high : l.sum ≤ℤ pos (most_total * l.k);
}
