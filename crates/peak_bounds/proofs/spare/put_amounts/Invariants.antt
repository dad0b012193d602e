use Rattle.std.proofs.Common.{◌≡◌, ℕ, ◌+◌, ◌<◌, length, drop}
use Rattle.peak_bounds.specs.Evidence.{amount_or}
use Rattle.peak_bounds.specs.Judging.{size_at, AreSpare}
use Rattle.peak_bounds.proofs.spare.put_amounts.Given as goal

abbrev pub invariant-loop-i : goal.invariant-loop-i
invariant-loop-i l = record {
  told : (k : ℕ) → k < length l.sizes → size_at l.sizes k ≡ amount_or (size_at l.initial.sizes k) (drop l.i l.amounts) (k + 1);
  spare : AreSpare l.uses l.sizes l.spare;
}
