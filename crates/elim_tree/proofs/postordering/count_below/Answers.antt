use Rattle.std.proofs.Common.{◌+◌, ◌<◌, length, slice_set, arith, add-one, refl, sym, ◌∙◌, subst, slice_index}
use Rattle.std.proofs.lemmas.Grind.{get_or-set_at}
use Rattle.std.proofs.lemmas.List.{get_or-set_other}
use Rattle.elim_tree.proofs.CountLemmas.{IsCountedTo, counted_none, counted_more, room, inside}
use Rattle.elim_tree.proofs.Places.{table_short, table_within, table_rising}
use Rattle.elim_tree.proofs.postordering.count_below.Goals as goal

pub loop-j-init : goal.loop-j-init
loop-j-init c = record {
  counted = counted_none (length c.args.parents.now) (slice_index c.args.parents.now)
      (slice_index c.args.below.now) (slice_index c.args.before.now) c.requires.table.some c.requires.none;
  unused = refl;
}

pub overflow_add-below : goal.overflow_add-below
overflow_add-below c =
    let short = table_short c.args.parents.now c.requires.table in
    let fits =
    room c.loop-j.j (length c.args.parents.now) (slice_index c.args.parents.now) (slice_index c.loop-j.below) (slice_index c.loop-j.before)
    (table_rising c.args.parents.now c.requires.table) (omega arith) c.loop-j-test.true c.loop-j.invariant.counted in
    omega arith

pub overflow_add-below-in-loop-j : goal.overflow_add-below-in-loop-j
overflow_add-below-in-loop-j c =
    let short = table_short c.args.parents.now c.requires.table in
    let fits =
    room c.loop-j.j (length c.args.parents.now) (slice_index c.args.parents.now) (slice_index c.loop-j.below) (slice_index c.loop-j.before)
    (table_rising c.args.parents.now c.requires.table) (omega arith) c.loop-j-test.true c.loop-j.invariant.counted in
    omega arith

pub loop-j-preserved : goal.loop-j-preserved
loop-j-preserved c =
    let j = c.loop-j.j in
    let n = length c.args.parents.now in
    let p = slice_index c.args.parents.now j in
    let below = c.loop-j.below in
    let before = c.loop-j.before in
    let some : 0 < j = omega arith in
    let within = inside j n (slice_index c.args.parents.now) (slice_index below) (slice_index before)
    (table_rising c.args.parents.now c.requires.table) some c.loop-j-test.true c.loop-j.invariant.counted in
    let p_in : p < length below = omega arith in
    let j_in : j < length before = omega arith in
    record {
      counted = subst (λ k. IsCountedTo k n (slice_index c.args.parents.now)
          (slice_index (slice_set below p (slice_index below p + (slice_index below j + 1))))
          (slice_index (slice_set before j (slice_index below p)))) (sym (add-one j))
          (counted_more j n (slice_index c.args.parents.now) (slice_index below) (slice_index before)
          (table_rising c.args.parents.now c.requires.table) some c.loop-j-test.true c.loop-j.invariant.counted
          (slice_index (slice_set below p (slice_index below p + (slice_index below j + 1))))
          (slice_index (slice_set before j (slice_index below p)))
          (get_or-set_at below p p (slice_index below p + (slice_index below j + 1)) 0 refl p_in ∙ omega arith)
          (λ x ne. get_or-set_other below p x (slice_index below p + (slice_index below j + 1)) 0 ne)
          (get_or-set_at before j j (slice_index below p) 0 refl j_in)
          (λ x ne. get_or-set_other before j x (slice_index below p) 0 ne));
      unused = get_or-set_other before j 0 (slice_index below p) 0 (λ e. absurd (omega arith)) ∙ c.loop-j.invariant.unused;
    }

pub bounds-below-p : goal.bounds-below-p
bounds-below-p c = let within = table_within c.args.parents.now c.requires.table c.loop-j.j in omega arith

pub bounds-below-p-in-loop-j : goal.bounds-below-p-in-loop-j
bounds-below-p-in-loop-j c = let within = table_within c.args.parents.now c.requires.table c.loop-j.j in omega arith

pub bounds-below-p-in-loop-j-2 : goal.bounds-below-p-in-loop-j-2
bounds-below-p-in-loop-j-2 c = let within = table_within c.args.parents.now c.requires.table c.loop-j.j in omega arith
