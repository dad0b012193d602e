use Rattle.elim_tree.specs.Forests.{Rooted, CanTake, IsTaken}
use Rattle.elim_tree.proofs.tree.take_row.Given as goal

abbrev pub invariant-loop-vertex : goal.invariant-loop-vertex
invariant-loop-vertex l = (forest : Rooted) → CanTake forest l.k l.row l.perm l.fn.parents l.fn.ancestors
    → IsTaken forest l.k l.row l.perm l.vertex-index l.parents l.ancestors
