use Rattle.std.proofs.Common.{◌≡◌, ◌≤◌, ◌+◌}
use Rattle.limits.specs.Limits.{most_total}
use Rattle.side_laws.specs.Segments.{net_sum}
use Rattle.hill_valley.specs.Ropes.{Extends}
use Rattle.hill_valley.specs.Side.{profile, HaveRopes}
use Rattle.hill_valley_tests.proofs.tests.roped.side_of.Given as goal

abbrev pub invariant-loop-up : goal.invariant-loop-up
invariant-loop-up l = record {
  ropes : HaveRopes l.ropes l.side;
  kept : Extends l.fn.ropes l.ropes;
  net : net_sum (profile l.side) + l.net ≡ l.sum;
  within : l.sum ≤ most_total;
}
