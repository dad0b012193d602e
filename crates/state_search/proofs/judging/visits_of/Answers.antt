use Rattle.std.proofs.Common.{◌<◌, List, length, ap, arith}
use Rattle.std.specs.List.{sum_by}
use Rattle.shared_systems.specs.Shared.{SharedItem}
use Rattle.shared_systems.specs.Bounds.{reader_count}
use Rattle.state_search.proofs.Visits.{all_visits, visits_fit}
use Rattle.state_search.proofs.judging.visits_of.Goals as goal

pub overflow_add-visits-in-loop-i : goal.overflow_add-visits-in-loop-i
overflow_add-visits-in-loop-i c =
    let items = c.items-items.result.now in
    let inside : c.loop-i.i < length items = omega (arith, c.loop-i-test.true, c.len-i-end.ensures) in
    let many = ap (λ (l : List SharedItem). length l) c.items-items.ensures.value in
    let uses = ap (λ (l : List SharedItem). sum_by reader_count l) c.items-items.ensures.value in
    rw c.readers.ensures (omega (
      arith,
      c.loop-i.invariant,
      visits_fit items c.loop-i.i inside,
      all_visits items,
      many,
      uses,
      c.keeps.ensures.few_items,
      c.keeps.ensures.few_uses,
    ))
