use Rattle.std.proofs.Common.{◌<◌, length, arith, ap}
use Rattle.std.proofs.lemmas.List.{take_all}
use Rattle.shared_systems.specs.Shared.{is_made_by, shared_size_where}
use Rattle.peak_bounds.proofs.Told.{part-le, part_more-le}
use Rattle.peak_bounds.proofs.needs.outputs.Goals as goal

pub overflow_add-sum : goal.overflow_add-sum
overflow_add-sum c =
    let inside : c.loop-i.i < length c.args.items.now = omega (arith, c.loop-i-test.true, c.len-i-end.ensures) in
    let part = part_more-le (is_made_by c.args.task) c.args.items.now c.loop-i.i inside in
    omega (arith, part, c.loop-i.invariant, c.requires, c.size-sum.ensures)

pub returns-clause-within : goal.returns-clause-within
returns-clause-within c =
    let whole = ap (shared_size_where (is_made_by c.args.task)) (take_all c.loop-i.i c.args.items.now (omega (arith, c.loop-i-test.false, c.len-i-end.ensures))) in
    omega (arith, whole, c.loop-i.invariant, c.requires, part-le (is_made_by c.args.task) c.args.items.now)
