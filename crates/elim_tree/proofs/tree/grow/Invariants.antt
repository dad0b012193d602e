use Rattle.std.proofs.Common.{ℕ, slice_index}
use Rattle.patterns.specs.Pattern.{is_joined}
use Rattle.ordering.specs.Fill.{renumbered}
use Rattle.elim_tree.specs.Forests.{IsGrown}
use Rattle.elim_tree.proofs.tree.grow.Given as goal

abbrev pub invariant-loop-k : goal.invariant-loop-k
invariant-loop-k l =
    (root : ℕ → ℕ) × IsGrown (renumbered (is_joined l.pattern) l.perm) l.k root (slice_index l.parents) (slice_index l.ancestors)
