use Rattle.std.proofs.Common.{[], ◌∷◌, length}
use Rattle.sp_cuts.proofs.Appended.{Appending}
use Rattle.sp_cuts.proofs.behind.put_before.Given as goal

abbrev pub invariant-loop-seg : goal.invariant-loop-seg
invariant-loop-seg g l = record {
  appending : Appending l.fn.ropes l.ropes l.fn.far (l.fn.first ∷ []) l.far (record { up = l.fn.first.up; net = l.net; tasks = l.tasks } ∷ []);
}

abbrev pub decreases-loop-seg : goal.decreases-loop-seg
decreases-loop-seg g l = length l.far
