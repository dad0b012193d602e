use Rattle.std.proofs.Common.{◌≡◌, ◌∷◌, map, take}
use Rattle.assembly_tree.specs.Assembly.{columns_in}
use Rattle.equivalent_orders.proofs.columns.rooms_of_fronts.Given as goal

abbrev pub invariant-loop-front : goal.invariant-loop-front
invariant-loop-front l = l.rooms.items ≡ 0 ∷ map columns_in (take l.front-index l.supers)
