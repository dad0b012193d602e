-- The greatest use along events that stay within the bound.
use Rattle.std.proofs.Common.{◌≤◌, List, [], ◌∷◌, refl, ap, arith}
use Rattle.activation.specs.declared.events.Event.{Event}
use Rattle.activation.specs.Machine.{Setting, State, state_after}
use Rattle.activation.specs.Runs.{StaysWithinBound, IsWithinBound}
use Rattle.activation.specs.Schedule.{most_used}

pub most_within : (c : Setting) (es : List Event) (st : State) → StaysWithinBound c st es → most_used c st es ≤ c.bound
most_within c [] st stays = (let here : IsWithinBound c st = stays [] [] refl in omega (arith, here.used, here.booked))
most_within c (e ∷ es) st stays =
    let here : IsWithinBound c st = stays [] (e ∷ es) refl in
    let rest = most_within c es (state_after st e.kind e.task) (λ before after same. stays (e ∷ before) after (ap (λ z. e ∷ z) same)) in
    omega (arith, here.used, here.booked, rest)
