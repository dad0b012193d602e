use Rattle.std.proofs.Common.{◌≡◌, length, slice_index}
use Rattle.elim_tree.proofs.CountLemmas.{IsCountedTo}
use Rattle.elim_tree.proofs.postordering.count_below.Given as goal

abbrev pub invariant-loop-j : goal.invariant-loop-j
invariant-loop-j l = record {
  counted : IsCountedTo l.j (length l.parents) (slice_index l.parents) (slice_index l.below) (slice_index l.before);
  unused : slice_index l.before 0 ≡ slice_index l.fn.before 0;
}
