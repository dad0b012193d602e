use Rattle.std.proofs.Common.{◌≡◌, ◌++◌, drop}
use Rattle.equivalent_orders.proofs.columns.push_vertices.Given as goal

-- the vertices that are left would complete the order
abbrev pub invariant-loop-vertex : goal.invariant-loop-vertex
invariant-loop-vertex l =
    (l.order.numbers ++ drop l.vertex-index l.vertices ≡ l.initial.order.numbers ++ l.vertices)
    × (l.order.n ≡ l.initial.order.n)
