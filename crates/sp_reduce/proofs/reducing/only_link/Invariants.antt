use Rattle.std.proofs.Common.{◌≡◌, drop}
use Rattle.sp_reduce.specs.Work.{pairs_of}
use Rattle.sp_reduce.proofs.reducing.only_link.Given as goal

abbrev pub invariant-loop-i : goal.invariant-loop-i
invariant-loop-i l = pairs_of l.links ≡ pairs_of (drop l.i l.links)
