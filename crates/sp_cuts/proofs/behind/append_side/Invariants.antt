use Rattle.std.proofs.Common.{length}
use Rattle.sp_cuts.proofs.Appended.{Appending}
use Rattle.sp_cuts.proofs.behind.append_side.Given as goal

abbrev pub invariant-loop-seg : goal.invariant-loop-seg
invariant-loop-seg g l = record { appending : Appending l.fn.ropes l.ropes l.fn.far l.fn.near l.far l.near }

abbrev pub decreases-loop-seg : goal.decreases-loop-seg
decreases-loop-seg g l = length l.far
