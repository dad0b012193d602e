use Rattle.std.proofs.Common.{◌<◌, length, get_or, arith, ◌∙◌}
use Rattle.std.proofs.lemmas.List.{get_or_read}
use Rattle.graphs.proofs.CountLemmas.{count-fits}
use Rattle.graphs.proofs.counts.count_ends.Goals as goal

pub overflow_add-index_mut : goal.overflow_add-index_mut
overflow_add-index_mut c =
    let ends = c.args.ends.now in
    let i = c.loop-end.end-index in
    let v = get_or ends i 0 in
    let small = c.requires.within i 0 c.loop-end-test.true in
    let room : v < length c.loop-end.counts.items = omega (arith, small, c.loop-end.invariant.len) in
    let old =
    get_or_read c.loop-end.counts.items v c.index_mut.result.now room c.index_mut.ensures.value 0 ∙ c.loop-end.invariant.counts v in
    omega (arith, old, count-fits v ends i c.loop-end-test.true, c.requires.few)
