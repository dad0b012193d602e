-- No public clause names this.
-- What a builder of terms has room for.
use Rattle.std.specs.Prelude.{ℕ, ◌+◌, ◌≤◌, List, length}
use Rattle.std.specs.List.{sum_by}
use Rattle.limits.specs.Limits.{most_tasks, most_positions, most_total}
use Rattle.sp_terms.specs.declared.position.Position.{Position}
use Rattle.sp_terms.specs.Term.{Term}
use Rattle.sp_terms.specs.Values.{Leaves, added_tasks, added_size}

-- the positions leave terms, and so many positions and tasks more, and sizes of so much, pass no limit
pub record HasRoomFor (ps : List Position) (positions tasks size : ℕ) : Type 0 where
  pub stack : List Term
  pub leaves : Leaves ps stack
  pub positions_fit : length ps + positions ≤ most_positions
  pub tasks_fit : sum_by added_tasks ps + tasks ≤ most_tasks
  pub size_fits : sum_by added_size ps + size ≤ most_total
