use Rattle.std.proofs.Common.{◌≡◌, take}
use Rattle.fences.specs.Certificates.{join_places_from}
use Rattle.fencing.proofs.certificate.join_places.Given as goal

abbrev pub invariant-loop-i : goal.invariant-loop-i
invariant-loop-i l = l.places.items ≡ join_places_from 1 (take l.i l.items)
