use Rattle.std.proofs.Common.{◌≡◌, ◌+◌, length}
use Rattle.column_counts.proofs.SpanRows.{AreCarried}
use Rattle.column_counts.proofs.spans.first_descendants.Given as goal

abbrev pub invariant-loop-j : goal.invariant-loop-j
invariant-loop-j l = record {
  len : length l.firsts.items ≡ length l.parents + 1;
  carried : AreCarried l.parents l.firsts.items l.j;
}
