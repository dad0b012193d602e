use Rattle.std.proofs.Common.{ℕ, List}
use Rattle.elim_tree.specs.Forests.{Rooted, CanTake, IsTaken, IsInTurn}
use Rattle.elim_tree.proofs.tree.take_head.Given as goal

abbrev pub invariant-loop-column : goal.invariant-loop-column
invariant-loop-column l =
    (forest : Rooted) → (order : List ℕ) → IsInTurn l.row order → CanTake forest l.k l.row order l.fn.parents l.fn.ancestors
    → IsTaken forest l.k l.row order l.column-index l.parents l.ancestors
