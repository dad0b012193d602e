use Rattle.permutations.specs.PlaceTables.{ArePlaced}
use Rattle.permutations.proofs.numbers.places_of.Given as goal

abbrev pub invariant-loop-i : goal.invariant-loop-i
invariant-loop-i l = ArePlaced l.base l.n l.numbers l.places.items l.i
