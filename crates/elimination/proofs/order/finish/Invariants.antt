use Rattle.std.proofs.Common.{◌≡◌, ℕ, List, length}
use Rattle.elimination.specs.Quotients.{at}
use Rattle.elimination.specs.Progress.{IsFinishing}
use Rattle.elimination.proofs.order.finish.Given as goal

abbrev pub invariant-loop-v : goal.invariant-loop-v
invariant-loop-v l = (rows : List (List ℕ)) → length rows ≡ l.n → IsFinishing rows l.fn.vertices.items (at l.turns) 1
    → IsFinishing rows l.vertices.items (at l.turns) l.v
