use Rattle.std.proofs.Common.{◌<◌, length, take, All}
use Rattle.peak_bounds.specs.Fitting.{FitsAt, item_told}
use Rattle.peak_bounds.proofs.fitting.fit_around.Given as goal

abbrev pub invariant-loop-told : goal.invariant-loop-told
invariant-loop-told l = record {
  last : l.last < length l.items → FitsAt l.items l.lowered l.last;
  each : All (λ told. FitsAt l.items l.lowered (item_told l.fitting told)) (take l.told-index l.own);
}
