use Rattle.std.proofs.Common.{below_more, ◌≡◌, ◌≢◌, ℕ, ◌<◌, length, get_or, get_or-set_same, get_or-set_other, refl, sym, ◌∙◌, ap, arith}
use Rattle.std.specs.Prelude.{slice_index}
use Rattle.std.proofs.lemmas.List.{length-map, get_or-map}
use Rattle.std.proofs.lemmas.Grind.{same_number_lists}
use Rattle.activation.proofs.Lengths.{each_long}
use Rattle.activation.proofs.Orders.{stands_once}
use Rattle.activation.proofs.room.write_ranks.Goals as goal

pub bounds-priority-rank : goal.bounds-priority-rank
bounds-priority-rank c =
    let s = c.args.core.now.setting in
    omega (
      arith,
      c.loop-rank-test.true,
      c.loop-rank.auto.priority,
      c.requires.priority_long,
      c.order_law.ensures.long s.system s.order c.keeps.ensures.setting.traversal,
      each_long s.system c.args.tasks.now c.requires.tasks,
    )

pub overflow_cast-ranks : goal.overflow_cast-ranks
overflow_cast-ranks c =
    let s = c.args.core.now.setting in
    omega (arith, c.loop-rank-test.true, each_long s.system c.args.tasks.now c.requires.tasks, c.keeps.ensures.setting.system.few_tasks)

pub loop-rank-preserved : goal.loop-rank-preserved
loop-rank-preserved c =
    let s = c.args.core.now.setting in
    let tasks = c.args.tasks.now in
    let i = c.loop-rank.rank in
    let place = c.place_of-place.result in
    let priority = c.loop-rank.priority in
    let ranks = c.loop-rank.ranks in
    let inv = c.loop-rank.invariant in
    let inside : i < length priority = omega (
      arith,
      c.loop-rank-test.true,
      c.loop-rank.auto.priority,
      c.requires.priority_long,
      c.order_law.ensures.long s.system s.order c.keeps.ensures.setting.traversal,
      each_long s.system tasks c.requires.tasks,
    ) in
    let within : place < length ranks = omega (arith, c.place_of-place.ensures.within, c.loop-rank.auto.ranks, c.requires.ranks_long) in
    record {
      there = below_more _ i
          (λ r w. let apart : r ≢ i = omega arith in rw (get_or-set_other priority i r place 0 apart) (inv.there r w))
          (rw (get_or-set_same priority i place 0 inside) (c.place_of-place.ensures.within, c.place_of-place.ensures.there));
      ranks = below_more _ i
          (λ r w.
          let apart : r ≢ i = omega arith in
          let other : get_or priority r 0 ≢ place = λ e.
          apart (stands_once s.system tasks c.requires.tasks (get_or tasks i 0) r i (omega (arith, w, c.loop-rank-test.true))
          c.loop-rank-test.true (sym (inv.there r w).1 ∙ ap (slice_index s.order) e ∙ c.place_of-place.ensures.there) refl) in
          rw (get_or-set_other priority i r place 0 apart) (get_or-set_other ranks place (get_or priority r 0) i 0 other ∙ inv.ranks r w))
          (rw (get_or-set_same priority i place 0 inside) (get_or-set_same ranks place i 0 within));
    }

pub returns-clause-priority : goal.returns-clause-priority
returns-clause-priority c =
    let s = c.args.core.now.setting in
    let f : ℕ → ℕ = slice_index s.order in
    let priority = c.loop-rank.priority in
    let long : length priority ≡ length c.args.tasks.now = omega (
      arith,
      c.loop-rank.auto.priority,
      c.requires.priority_long,
      c.order_law.ensures.long s.system s.order c.keeps.ensures.setting.traversal,
      each_long s.system c.args.tasks.now c.requires.tasks,
    ) in
    same_number_lists _ _ (length-map priority f ∙ long)
    (λ k w. let w' : k < length priority = omega (arith, w, length-map priority f) in
    get_or-map f priority k 0 0 w' ∙ (c.loop-rank.invariant.there k (omega (arith, w', long, c.loop-rank-test.false))).1)
