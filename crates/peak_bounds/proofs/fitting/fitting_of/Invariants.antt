use Rattle.peak_bounds.specs.Fitting.{AreStarts, AreItemsOfUses}
use Rattle.peak_bounds.proofs.fitting.fitting_of.Given as goal

abbrev pub invariant-loop-i : goal.invariant-loop-i
invariant-loop-i l = record {
  starts : AreStarts l.items l.i l.starts.items;
  of_uses : AreItemsOfUses l.items l.i l.of_uses.items;
}
