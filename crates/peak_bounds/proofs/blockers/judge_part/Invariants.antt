use Rattle.std.proofs.Common.{◌≡◌, ◌+◌, length}
use Rattle.peak_bounds.specs.Judging.{AreSpare}
use Rattle.peak_bounds.specs.Judged.{HaveLengths, AllPassIn}
use Rattle.peak_bounds.proofs.blockers.judge_part.Given as goal

abbrev pub invariant-loop-i : goal.invariant-loop-i
invariant-loop-i l = record {
  passed : AllPassIn l.system l.set l.bound l.from l.i;
  sizes : l.sizes.items ≡ l.common.sizes.items;
  spare_len : length l.spare.items ≡ length l.system.tasks + 1;
  spare : AreSpare l.common.uses l.sizes.items l.spare.items;
  lengths : HaveLengths (length l.system.tasks) l.marks;
}
