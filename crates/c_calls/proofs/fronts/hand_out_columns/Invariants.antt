use Rattle.std.proofs.Common.{◌≡◌, map, take}
use Rattle.equivalent_orders.specs.Arrays.{number_from}
use Rattle.c_calls.proofs.fronts.hand_out_columns.Given as goal

abbrev pub invariant-loop-k : goal.invariant-loop-k
invariant-loop-k l = take l.k l.columns ≡ map (number_from l.base) (take l.k l.order)
