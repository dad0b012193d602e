use Rattle.std.proofs.Common.{length}
use Rattle.hill_valley.proofs.Moved.{Moving}
use Rattle.hill_valley.proofs.side.Side.take_in.Given as goal

abbrev pub invariant-loop-seg : goal.invariant-loop-seg
invariant-loop-seg l = record {
  moving : Moving l.before l.fn.ropes l.ropes l.fn.other l.fn.self l.other l.self;
}

abbrev pub decreases-loop-seg : goal.decreases-loop-seg
decreases-loop-seg l = length l.other
