use Rattle.std.proofs.Common.{◌<◌, length, ap, arith}
use Rattle.std.specs.List.{sum_by}
use Rattle.shared_systems.specs.Shared.{SharedItem}
use Rattle.shared_systems.specs.Bounds.{shared_size}
use Rattle.shared_systems.proofs.KeySums.{sums-fit}
use Rattle.peak_bounds.proofs.needs.made_by_each.Goals as goal

pub add_made-requires-clause-fits : goal.add_made-requires-clause-fits
add_made-requires-clause-fits c = λ v.
    let items = c.items-items.result.now in
    let inside : c.loop-i.i < length items = omega (arith, c.loop-i-test.true, c.len-i-end.ensures) in
    let fits = sums-fit (λ (x : SharedItem). x.from) items c.loop-i.made.items c.loop-i.i c.size.result inside c.loop-i.invariant.sums c.size.ensures v in
    rw c.deref_mut.ensures.value (omega (arith, fits, c.items-items.ensures.system.total, ap (sum_by shared_size) c.items-items.ensures.value))
