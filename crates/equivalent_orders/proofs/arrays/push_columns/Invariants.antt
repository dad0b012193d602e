use Rattle.std.proofs.Common.{◌≡◌, ◌++◌, map, take}
use Rattle.lists.specs.Numbers.{number_at}
use Rattle.equivalent_orders.proofs.arrays.push_columns.Given as goal

abbrev pub invariant-loop-place : goal.invariant-loop-place
invariant-loop-place l = l.order.items ≡ l.initial.order.items ++ map (number_at l.columns) (take l.place-index l.places)
