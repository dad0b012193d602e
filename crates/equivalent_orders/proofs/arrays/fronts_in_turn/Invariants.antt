use Rattle.std.proofs.Common.{◌≡◌, map, take}
use Rattle.equivalent_orders.specs.Arrays.{front_of_column}
use Rattle.equivalent_orders.proofs.arrays.fronts_in_turn.Given as goal

abbrev pub invariant-loop-column : goal.invariant-loop-column
invariant-loop-column l = l.fronts.items ≡ map (front_of_column l.base l.front_of) (take l.column-index l.columns)
