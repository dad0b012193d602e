use Rattle.std.proofs.Common.{◌<◌, length, arith}
use Rattle.shared_systems.specs.Shared.{SharedItem}
use Rattle.shared_systems.proofs.KeySums.{sums-fit}
use Rattle.bound_search.proofs.needs.outputs_of.Goals as goal

pub add_size-requires-clause-fits : goal.add_size-requires-clause-fits
add_size-requires-clause-fits c = λ v.
    let inside : c.loop-i.i < length c.args.items.now = omega (arith, c.loop-i-test.true, c.len-i-end.ensures) in
    let fits = sums-fit (λ (x : SharedItem). x.from) c.args.items.now c.loop-i.sums.items
    c.loop-i.i c.size.result inside c.loop-i.invariant.sums c.size.ensures v in
    rw c.deref_mut.ensures.value (omega (arith, fits, c.requires.total))
