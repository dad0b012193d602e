use Rattle.std.proofs.Common.{◌≡◌, ◌+◌, ◌<◌, ◌∙◌, length, ap, arith}
use Rattle.std.proofs.lemmas.List.{get_or_read}
use Rattle.shared_systems.specs.Shared.{is_made_by, shared_outputs_of}
use Rattle.peak_bounds.proofs.Told.{part-le}
use Rattle.peak_bounds.proofs.needs.all_needs.Goals as goal

pub need_making-requires-clause-within : goal.need_making-requires-clause-within
need_making-requires-clause-within c =
    let i = c.loop-i.i in
    let system = c.args.system.now in
    let inside : i + 1 < length c.loop-i.needs.items = omega (arith, c.loop-i-test.true, c.loop-i.invariant.len, ap length c.tasks-i-end.ensures.value) in
    let read : c.index.result.now ≡ shared_outputs_of system (i + 1) =
    get_or_read c.loop-i.needs.items (i + 1) c.index.result.now inside c.index.ensures 0 ∙ c.loop-i.invariant.made (i + 1) (omega arith) in
    omega (arith, read, part-le (is_made_by (i + 1)) system.items, c.tasks-i-end.ensures.system.total)
