use Rattle.std.proofs.Common.{length}
use Rattle.hill_valley.specs.Side.{HaveRopes}
use Rattle.segment_merge_tests.proofs.tests.rows_of.Given as goal

abbrev pub invariant-loop-seg : goal.invariant-loop-seg
invariant-loop-seg l = HaveRopes l.ropes l.side

abbrev pub decreases-loop-seg : goal.decreases-loop-seg
decreases-loop-seg l = length l.side
