use Rattle.std.proofs.Common.{◌≡◌, ◌+◌, length}
use Rattle.shared_systems.proofs.OrderPlaces.{ArePlaces}
use Rattle.carried_graphs.proofs.lasts.places_of.Given as goal

abbrev pub invariant-loop-i : goal.invariant-loop-i
invariant-loop-i l = record { len : length l.places.items ≡ l.last + 1; are : ArePlaces l.places.items l.order l.last l.i }
