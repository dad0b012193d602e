use Rattle.std.proofs.Common.{◌≡◌, ◌++◌, ◌-◌, length, drop}
use Rattle.equivalent_orders.specs.Fronts.{vertices_along}
use Rattle.equivalent_orders.proofs.columns.order_along.Given as goal

-- the vertices of the fronts that are left would complete the order
abbrev pub invariant-loop-place : goal.invariant-loop-place
invariant-loop-place l =
    (l.order.numbers ++ vertices_along l.perm l.assembly (drop (l.place - 1) l.fronts) ≡ vertices_along l.perm l.assembly l.fronts)
    × (l.order.n ≡ length l.perm)
