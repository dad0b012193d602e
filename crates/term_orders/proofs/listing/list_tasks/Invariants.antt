use Rattle.std.proofs.Common.{◌≡◌, ◌++◌, ℕ, List}
use Rattle.std.specs.List.{sum_by}
use Rattle.sp_terms.specs.Values.{term_of}
use Rattle.term_orders.specs.Steps.{AreListed, walk, weight}
use Rattle.term_orders.proofs.listing.list_tasks.Given as goal

abbrev pub invariant-loop-step : goal.invariant-loop-step
invariant-loop-step l =
    (rest : List ℕ) × (walk l.side 1 (term_of l.positions) ≡ l.found.items ++ rest) × AreListed l.positions l.side l.steps.items rest

abbrev pub decreases-loop-step : goal.decreases-loop-step
decreases-loop-step l = sum_by weight l.steps.items
