use Rattle.std.proofs.Common.{◌≡◌, ℕ, ◌<◌, slice_index}
use Rattle.elim_tree.proofs.postordering.invert.Given as goal

-- the columns so far stand at their places
abbrev pub invariant-loop-j : goal.invariant-loop-j
invariant-loop-j l = (x : ℕ) → x < l.j → slice_index l.vertices (slice_index l.places x) ≡ x
