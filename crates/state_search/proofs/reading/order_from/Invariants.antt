use Rattle.std.proofs.Common.{ℕ, ◌<◌, ◌++◌, List, length}
use Rattle.shared_systems.specs.Shared.{SharedTaskSystem}
use Rattle.shared_systems.specs.Bounds.{IsSharedSystem}
use Rattle.state_search.specs.States.{state_at}
use Rattle.state_search.specs.Runs.{Runs}
use Rattle.state_search.specs.Kept.{AreLookedAt}
use Rattle.state_search.proofs.reading.order_from.Given as goal

abbrev pub invariant-loop-i : goal.invariant-loop-i
invariant-loop-i l = record {
  inside : l.i < length l.states.rows;
  runs : (system : SharedTaskSystem) (bound : ℕ) → IsSharedSystem system → AreLookedAt system bound l.states → (rest : List ℕ)
      → Runs system bound (state_at l.states.rows l.i) rest → Runs system bound (state_at l.states.rows l.place) (l.order.items ++ rest);
}

abbrev pub decreases-loop-i : goal.decreases-loop-i
decreases-loop-i l = l.i
