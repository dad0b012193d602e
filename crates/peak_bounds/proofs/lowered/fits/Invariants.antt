use Rattle.std.proofs.Common.{◌≡◌, ◌+◌, take}
use Rattle.std.specs.List.{sum_by}
use Rattle.peak_bounds.specs.Moments.{above_zero}
use Rattle.peak_bounds.proofs.lowered.fits.Given as goal

abbrev pub invariant-loop-lowered : goal.invariant-loop-lowered
invariant-loop-lowered l = l.left + sum_by above_zero (take l.lowered-index l.part) ≡ l.size
