use Rattle.std.proofs.Common.{◌≡◌, ◌∙◌, ap, ◌+◌, ◌<◌, map, length}
use Rattle.std.proofs.lemmas.List.Elements.{All-same}
use Rattle.mp_system.specs.ReplayTables.{consumer_of}
use Rattle.mp_system.proofs.InputPlaces.{consumers-within}
use Rattle.mp_system.proofs.inputs.input_rows.Goals as goal

pub group-requires-clause-below : goal.group-requires-clause-below
group-requires-clause-below c =
    let system = c.args.system.now in
    let count : length c.tasks.result.now ≡ length system.tasks = ap length c.tasks.ensures.value in
    rw count
    (All-same (λ key. key < length system.tasks + 1) c.deref.result.now (map consumer_of system.items)
    (c.deref.ensures.value ∙ c.in_ok-consumers.ensures ∙ ap (map consumer_of) c.items.ensures.value)
    (consumers-within system c.items.ensures.system))
