use Rattle.std.proofs.Common.{◌<◌, length, get_or, sym, ◌∙◌, arith}
use Rattle.shared_systems.specs.Shared.{SharedItem}
use Rattle.shared_systems.specs.Places.{last_if_any}
use Rattle.shared_systems.proofs.KeySums.{sums-fit, last_any_small}
use Rattle.shared_systems.proofs.peak.freed_at.Goals as goal

pub add_size-requires-clause-within : goal.add_size-requires-clause-within
add_size-requires-clause-within c = λ x e.
    let small = last_any_small (λ v. get_or c.args.places.now v 0) c.args.len c.requires.places c.readers.result.now x
    (sym c.last_if_any.ensures ∙ e) in
    rw c.deref_mut.ensures.value (omega (arith, small, c.loop-i.invariant.len))

pub add_size-requires-clause-fits : goal.add_size-requires-clause-fits
add_size-requires-clause-fits c = λ v.
    let inside : c.loop-i.i < length c.args.items.now = omega (arith, c.loop-i-test.true, c.len-i-end.ensures) in
    let fits = sums-fit (λ (x : SharedItem). last_if_any (λ u. get_or c.args.places.now u 0) x.readers)
    c.args.items.now c.loop-i.sums.items c.loop-i.i c.size.result inside c.loop-i.invariant.sums c.size.ensures v in
    rw c.deref_mut.ensures.value (omega (arith, fits, c.requires.total))
