use Rattle.std.proofs.Common.{ℕ, ◌<◌, length, drop}
use Rattle.peak_bounds.specs.Judging.{AreSpare}
use Rattle.peak_bounds.proofs.Told.{IsTaken}
use Rattle.peak_bounds.proofs.spare.take_back.Given as goal

abbrev pub invariant-loop-i : goal.invariant-loop-i
invariant-loop-i l = record {
  taken : (k : ℕ) → k < length l.sizes → IsTaken l.sizes l.base (drop l.i l.amounts) k;
  spare : AreSpare l.uses l.sizes l.spare;
}
