use Rattle.std.proofs.Common.{◌≡◌, ◌≤◌}
use Rattle.side_laws.specs.Segments.{net_sum}
use Rattle.hill_valley.specs.Ropes.{Extends}
use Rattle.hill_valley.specs.Side.{profile, HaveRopes}
use Rattle.segment_merge_tests.proofs.tests.side_of.Given as goal

abbrev pub invariant-loop-up : goal.invariant-loop-up
invariant-loop-up l = record {
  ropes : HaveRopes l.ropes l.side;
  kept : Extends l.fn.ropes l.ropes;
  net : net_sum (profile l.side) ≡ l.sum;
  within : l.sum ≤ 2000;
}
