use Rattle.std.proofs.Common.{◌+◌, ◌≡◌, ◌-◌, ◌++◌, ℕ, List, length}
use Rattle.limits.specs.Limits.{most_tasks}
use Rattle.row_table.specs.Rows.{row_at}
use Rattle.postorder_best.specs.Rows.{Emits}
use Rattle.postorder_best.proofs.walking.walk.Given as goal

abbrev pub invariant-loop-x : goal.invariant-loop-x
invariant-loop-x l = record {
  left : (e : List ℕ) → Emits (length l.rows) (row_at l.rows) (row_at l.rows 0) e
      → (rest : List ℕ) × Emits (length l.rows) (row_at l.rows) l.stack.items rest × (e ≡ l.listing.items ++ rest);
}

abbrev pub decreases-loop-x : goal.decreases-loop-x
decreases-loop-x l = most_tasks + 2 - length l.listing.items
