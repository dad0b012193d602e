use Rattle.std.proofs.Common.{◌≡◌, ◌↔◌, ◌+◌, length, drop}
use Rattle.peak_bounds.specs.Moments.{uses_of, FitSizes}
use Rattle.peak_bounds.proofs.lowered.fit_sizes.Given as goal

abbrev pub invariant-loop-i : goal.invariant-loop-i
invariant-loop-i l = record {
  left : FitSizes l.items l.lowered ↔ FitSizes (drop l.i l.items) (drop l.start l.lowered);
  long : l.start + length (uses_of (drop l.i l.items)) ≡ length l.lowered;
}
