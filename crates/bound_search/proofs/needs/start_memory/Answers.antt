use Rattle.std.proofs.Common.{◌<◌, length, arith, ap, false}
use Rattle.std.proofs.lemmas.List.{take_all}
use Rattle.shared_systems.specs.Shared.{shared_size_where}
use Rattle.shared_systems.specs.SharedMemory.{is_held}
use Rattle.peak_bounds.proofs.Told.{part-le, part_more-le}
use Rattle.bound_search.proofs.needs.start_memory.Goals as goal

pub overflow_add-memory : goal.overflow_add-memory
overflow_add-memory c =
    let inside : c.loop-i.i < length c.args.items.now = omega (arith, c.loop-i-test.true, c.len-i-end.ensures) in
    let part = part_more-le (is_held (λ v. false)) c.args.items.now c.loop-i.i inside in
    omega (arith, part, c.loop-i.invariant, c.requires, c.size-memory.ensures)

pub returns-clause-within : goal.returns-clause-within
returns-clause-within c =
    let whole = ap (shared_size_where (is_held (λ v. false)))
    (take_all c.loop-i.i c.args.items.now (omega (arith, c.loop-i-test.false, c.len-i-end.ensures))) in
    omega (arith, whole, c.loop-i.invariant, c.requires, part-le (is_held (λ v. false)) c.args.items.now)
