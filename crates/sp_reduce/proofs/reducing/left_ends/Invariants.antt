use Rattle.std.proofs.Common.{◌≡◌, take}
use Rattle.sp_reduce.specs.Work.{pairs_of}
use Rattle.sp_reduce.proofs.reducing.left_ends.Given as goal

abbrev pub invariant-loop-link : goal.invariant-loop-link
invariant-loop-link l = l.ends.items ≡ pairs_of (take l.link-index l.links)
