use Rattle.std.proofs.Common.{◌<◌, List, length, ap, arith}
use Rattle.std.specs.List.{sum_by}
use Rattle.shared_systems.specs.Bounds.{shared_size}
use Rattle.shared_systems.specs.Shared.{SharedItem}
use Rattle.shared_systems.proofs.KeySums.{sums-fit}
use Rattle.state_search.proofs.needs.outputs_of.Goals as goal

pub add_size-requires-clause-fits : goal.add_size-requires-clause-fits
add_size-requires-clause-fits c = λ v.
    let items = c.items-items.result.now in
    let inside : c.loop-i.i < length items = omega (arith, c.loop-i-test.true, c.len-i-end.ensures) in
    let fits = sums-fit (λ (x : SharedItem). x.from) items c.loop-i.sums.items
    c.loop-i.i c.size.result inside c.loop-i.invariant.sums c.size.ensures v in
    let same = ap (λ (l : List SharedItem). sum_by shared_size l) c.items-items.ensures.value in
    rw c.deref_mut.ensures.value (omega (arith, fits, same, c.keeps.ensures.total))
