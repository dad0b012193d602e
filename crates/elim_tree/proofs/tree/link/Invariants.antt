use Rattle.std.proofs.Common.{◌-◌, slice_index}
use Rattle.elim_tree.specs.Forests.{Rooted, CanLink, IsOnWay}
use Rattle.elim_tree.proofs.tree.link.Given as goal

abbrev pub invariant-way : goal.invariant-way
invariant-way l = (forest : Rooted) → CanLink forest l.k l.fn.start l.fn.parents l.fn.ancestors
    → IsOnWay forest.joined l.k l.fn.start l.column forest.root (slice_index l.parents) (slice_index l.ancestors)

abbrev pub decreases-way : goal.decreases-way
decreases-way l = l.k - l.column
