use Rattle.std.proofs.Common.{ℕ, ◌+◌, ◌<◌, ◌≤◌}
use Rattle.fences.specs.Judged.{item_at}
use Rattle.fences.specs.Orders.{IsApart}
use Rattle.fences.proofs.ordered.first_own_input.Given as goal

abbrev pub invariant-loop-i : goal.invariant-loop-i
invariant-loop-i l = (place : ℕ) → 1 ≤ place → place < l.i + 1 → IsApart (item_at l.system place)
