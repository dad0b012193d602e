use Rattle.row_table.proofs.Closing.{AreClosed}
use Rattle.row_table.proofs.gaps.close_gaps.Given as goal

abbrev pub invariant-loop-k : goal.invariant-loop-k
invariant-loop-k l = AreClosed l.fn.starts l.ends l.fn.numbers l.starts l.numbers l.k l.to
