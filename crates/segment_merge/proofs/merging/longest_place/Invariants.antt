use Rattle.segment_merge.proofs.Longest.{Seeking}
use Rattle.segment_merge.proofs.merging.longest_place.Given as goal

abbrev pub invariant-loop-i : goal.invariant-loop-i
invariant-loop-i l = Seeking l.sides l.i l.place l.most
