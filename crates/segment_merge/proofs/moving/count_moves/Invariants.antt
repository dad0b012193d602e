use Rattle.std.proofs.Common.{◌≡◌, ◌+◌, ◌≤◌}
use Rattle.segment_merge.proofs.moving.count_moves.Given as goal

abbrev pub invariant-loop : goal.invariant-loop
invariant-loop g l = record {
  within : l.counter ≤ l.segments;
  told : l.steps ≡ l.fn.steps + l.counter;
}
