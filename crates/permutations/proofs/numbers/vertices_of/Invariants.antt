use Rattle.std.proofs.Common.{◌≡◌, ◌∷◌, map, take}
use Rattle.lists.specs.Numbers.{from_one}
use Rattle.permutations.proofs.numbers.vertices_of.Given as goal

abbrev pub invariant-loop-number : goal.invariant-loop-number
invariant-loop-number l = l.vertices.items ≡ 0 ∷ map (from_one l.base) (take l.number-index l.numbers)
