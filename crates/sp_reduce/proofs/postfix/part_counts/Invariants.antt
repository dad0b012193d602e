use Rattle.std.proofs.Common.{◌≡◌, ◌<◌, ℕ, length, get_or}
use Rattle.sp_reduce.proofs.Writings.{count_at}
use Rattle.sp_reduce.proofs.postfix.part_counts.Given as goal

abbrev pub invariant-loop-piece : goal.invariant-loop-piece
invariant-loop-piece l = record {
  len : length l.counts.items ≡ l.piece-index;
  counts : (i : ℕ) → i < l.piece-index → get_or l.counts.items i 0 ≡ count_at l.pieces i;
}
