use Rattle.std.proofs.Common.{◌+◌, length}
use Rattle.hill_valley.proofs.Weaving.{Weaving}
use Rattle.hill_valley.proofs.side.Side.weave.Given as goal

abbrev pub invariant-loop-row : goal.invariant-loop-row
invariant-loop-row l = record {
  weaving : Weaving l.before l.fn.ropes l.ropes l.fn.other l.fn.self l.other l.self l.row;
}

abbrev pub decreases-loop-row : goal.decreases-loop-row
decreases-loop-row l = length l.other + length l.self
