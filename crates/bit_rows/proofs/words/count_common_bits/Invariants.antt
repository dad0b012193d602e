use Rattle.std.proofs.Common.{◌≡◌, ◌≤◌, ◌*◌}
use Rattle.bit_rows.proofs.Counts.{common_below}
use Rattle.bit_rows.proofs.words.count_common_bits.Given as goal

abbrev pub invariant-loop-k : goal.invariant-loop-k
invariant-loop-k l = record {
  so_far : l.count ≡ common_below l.words l.other l.k;
  small : l.count ≤ 64 * l.k;
}
