use Rattle.std.proofs.Common.{◌≡◌, map, take}
use Rattle.std.specs.List.{flat_map}
use Rattle.lists.specs.Numbers.{number_at}
use Rattle.row_table.specs.Rows.{row_at}
use Rattle.equivalent_orders.proofs.arrays.columns_of_rows.Given as goal

abbrev pub invariant-loop-front : goal.invariant-loop-front
invariant-loop-front l = l.order.items ≡ flat_map (λ s. map (number_at l.columns) (row_at l.places s)) (take l.front-index l.fronts)
