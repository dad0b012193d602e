use Rattle.std.proofs.Common.{◌<◌, length, get_or, arith, ◌∙◌}
use Rattle.std.proofs.lemmas.List.{get_or_read}
use Rattle.graphs.proofs.CountLemmas.{into-fits}
use Rattle.graphs.proofs.QueueLemmas.{no_arc}
use Rattle.graphs.proofs.shares.sizes_into.Goals as goal

pub overflow_add-index_mut : goal.overflow_add-index_mut
overflow_add-index_mut c =
    let arcs = c.args.arcs.now in
    let l = c.loop-arc in
    let i = l.arc-index in
    let v = (get_or arcs i no_arc).to in
    let small = (c.requires.within i no_arc c.loop-arc-test.true).to in
    let room : v < length l.sizes.items = omega (arith, small, l.invariant.len) in
    let old = get_or_read l.sizes.items v c.index_mut.result.now room c.index_mut.ensures.value 0 ∙ l.invariant.sums v in
    omega (arith, old, into-fits v arcs i no_arc c.loop-arc-test.true, c.requires.total)
