use Rattle.std.proofs.Common.{length, slice_index}
use Rattle.elim_tree.proofs.SpanLemmas.{IsPlacedFrom}
use Rattle.elim_tree.proofs.postordering.place_columns.Given as goal

abbrev pub invariant-loop-j : goal.invariant-loop-j
invariant-loop-j l = IsPlacedFrom l.j (length l.parents) (slice_index l.parents)
    (slice_index l.below) (slice_index l.fn.starts) (slice_index l.starts) (slice_index l.places)
