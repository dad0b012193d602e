use Rattle.std.proofs.Common.{◌≡◌, get_or, take}
use Rattle.shared_systems.specs.Places.{last_places}
use Rattle.shared_systems.proofs.weaving.lasts_of.Given as goal

abbrev pub invariant-loop-i : goal.invariant-loop-i
invariant-loop-i l = l.lasts.items ≡ last_places (λ c. get_or l.places c 0) (take l.i l.all)
