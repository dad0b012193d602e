use Rattle.std.proofs.Common.{◌<◌, length, arith, false}
use Rattle.shared_systems.specs.SharedMemory.{is_held}
use Rattle.peak_bounds.proofs.Told.{part_more-le}
use Rattle.peak_bounds.proofs.needs.at_start.Goals as goal

pub overflow_add-sum : goal.overflow_add-sum
overflow_add-sum c =
    let inside : c.loop-i.i < length c.args.items.now = omega (arith, c.loop-i-test.true, c.len-i-end.ensures) in
    let part = part_more-le (is_held (λ v. false)) c.args.items.now c.loop-i.i inside in
    omega (arith, part, c.loop-i.invariant, c.requires, c.size-sum.ensures)
