use Rattle.std.proofs.Common.{◌<◌, List, length, get_or, ap, arith, ◌∙◌}
use Rattle.shared_systems.specs.Shared.{SharedItem}
use Rattle.shared_systems.proofs.KeySums.{sums-fit, no_item}
use Rattle.spill_plan.proofs.gap_needs.outputs_by_task.Goals as goal

pub add_size-requires-clause-fits : goal.add_size-requires-clause-fits
add_size-requires-clause-fits c = λ v.
    let items = c.args.system.now.items in
    let i = c.loop-i.i in
    let same = c.items-items.ensures.value in
    let inside : i < length items = omega (arith, c.loop-i-test.true, c.len-i-end.ensures, ap length same) in
    let size = c.size.ensures ∙ ap (λ (xs : List SharedItem). (get_or xs i no_item).size) same in
    let fits = sums-fit (λ (x : SharedItem). x.from) items c.loop-i.sums.items i c.size.result inside c.loop-i.invariant.sums size v in
    rw c.deref_mut.ensures.value (omega (arith, fits, c.keeps.ensures.total))
