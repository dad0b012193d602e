use Rattle.std.proofs.Common.{◌<◌, length, arith}
use Rattle.shared_systems.specs.Shared.{is_read_by}
use Rattle.peak_bounds.proofs.Told.{part_more-le}
use Rattle.bound_search.proofs.needs.inputs_of.Goals as goal

pub add_sizes-requires-clause-fits : goal.add_sizes-requires-clause-fits
add_sizes-requires-clause-fits c = λ v.
    let inside : c.loop-i.i < length c.args.items.now = omega (arith, c.loop-i-test.true, c.len-i-end.ensures) in
    let fits = part_more-le (is_read_by v) c.args.items.now c.loop-i.i inside in
    rw c.deref_mut.ensures.value (omega (arith, fits, c.loop-i.invariant.sums v, c.size.ensures, c.requires.total))
