use Rattle.std.proofs.Common.{◌≡◌, get_or, take}
use Rattle.shared_systems.specs.Places.{last_place}
use Rattle.shared_systems.proofs.places.last_of.Given as goal

abbrev pub invariant-loop-reader : goal.invariant-loop-reader
invariant-loop-reader l = l.last ≡ last_place (λ c. get_or l.places c 0) (take l.reader-index l.readers)
