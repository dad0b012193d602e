use Rattle.std.proofs.Common.{◌<◌, List, length, ap, arith}
use Rattle.std.specs.List.{sum_by}
use Rattle.mp_system.specs.Replay.{is_marked}
use Rattle.shared_systems.specs.Shared.{SharedItem, shared_item_at}
use Rattle.shared_systems.specs.SharedMemory.{is_held}
use Rattle.shared_systems.specs.Bounds.{shared_size}
use Rattle.shared_systems.proofs.KeySums.{part-le}
use Rattle.state_search.specs.Views.{is_regained}
use Rattle.state_search.proofs.ItemSums.{size_fits}
use Rattle.state_search.proofs.view.view_of.Goals as goal

pub overflow_add-memory : goal.overflow_add-memory
overflow_add-memory c =
    let items = c.items-items.result.now in
    let test = is_held (is_marked c.args.marks.now) in
    let inside : c.loop-i.i < length items = omega (arith, c.loop-i-test.true, c.len-i-end.ensures) in
    let same = ap (λ (l : List SharedItem). sum_by shared_size l) c.items-items.ensures.value in
    omega (
      arith,
      c.loop-i.invariant.memory,
      c.held_size-memory.ensures,
      part-le test (shared_item_at items c.loop-i.i),
      size_fits test items c.loop-i.i inside,
      same,
      c.keeps.ensures.total,
    )

pub add_regained-requires-clause-fits : goal.add_regained-requires-clause-fits
add_regained-requires-clause-fits c = λ v.
    let items = c.items-items.result.now in
    let inside : c.loop-i.i < length items = omega (arith, c.loop-i-test.true, c.len-i-end.ensures) in
    let same = ap (λ (l : List SharedItem). sum_by shared_size l) c.items-items.ensures.value in
    let fits = size_fits (is_regained c.args.marks.now v) items c.loop-i.i inside in
    rw c.deref_mut.ensures.value (omega (arith, c.loop-i.invariant.regained v, fits, same, c.keeps.ensures.total))
