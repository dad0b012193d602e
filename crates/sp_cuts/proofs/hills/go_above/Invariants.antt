use Rattle.std.proofs.Common.{length}
use Rattle.sp_cuts.proofs.Crossed.{Going}
use Rattle.sp_cuts.proofs.hills.go_above.Given as goal

abbrev pub invariant-loop-level : goal.invariant-loop-level
invariant-loop-level l =
    record { going : Going l.end l.fn.ropes l.ropes l.fn.far l.far l.fn.over.hill l.fn.over.level l.fn.over.tasks l.hill l.level l.tasks }

abbrev pub decreases-loop-level : goal.decreases-loop-level
decreases-loop-level l = length l.far
