use Rattle.std.proofs.Common.{◌+◌, ◌-◌, ◌<◌, length, slice_set, arith, refl, sym, ap, ◌∙◌, slice_index}
use Rattle.std.proofs.lemmas.Grind.{get_or-set_at}
use Rattle.std.proofs.lemmas.List.{get_or-set_other}
use Rattle.elim_tree.proofs.SpanLemmas.{placed_room, placed_more}
use Rattle.elim_tree.proofs.Places.{table_short, table_within, table_rising, table_places, table_before}
use Rattle.elim_tree.proofs.postordering.place_columns.Goals as goal

pub overflow_add-start : goal.overflow_add-start
overflow_add-start c =
    let short = table_short c.args.parents.now c.requires.table in
    let fits =
    placed_room (length c.args.parents.now) (slice_index c.args.parents.now) (slice_index c.args.below.now)
    (slice_index c.args.starts.now) (table_rising c.args.parents.now c.requires.table) c.requires.counted
    (c.loop-j.j - 1) c.loop-j.j (slice_index c.loop-j.starts) (slice_index c.loop-j.places)
    (omega arith) (omega arith) (omega arith) c.loop-j.invariant in
    omega arith

pub overflow_add-places : goal.overflow_add-places
overflow_add-places c =
    let short = table_short c.args.parents.now c.requires.table in
    let fits =
    placed_room (length c.args.parents.now) (slice_index c.args.parents.now) (slice_index c.args.below.now)
    (slice_index c.args.starts.now) (table_rising c.args.parents.now c.requires.table) c.requires.counted
    (c.loop-j.j - 1) c.loop-j.j (slice_index c.loop-j.starts) (slice_index c.loop-j.places)
    (omega arith) (omega arith) (omega arith) c.loop-j.invariant in
    omega arith

pub overflow_add-places-in-loop-j : goal.overflow_add-places-in-loop-j
overflow_add-places-in-loop-j c =
    let short = table_short c.args.parents.now c.requires.table in
    let fits =
    placed_room (length c.args.parents.now) (slice_index c.args.parents.now) (slice_index c.args.below.now)
    (slice_index c.args.starts.now) (table_rising c.args.parents.now c.requires.table) c.requires.counted
    (c.loop-j.j - 1) c.loop-j.j (slice_index c.loop-j.starts) (slice_index c.loop-j.places)
    (omega arith) (omega arith) (omega arith) c.loop-j.invariant in
    omega arith

pub loop-j-preserved : goal.loop-j-preserved
loop-j-preserved c =
    let j = c.loop-j.j - 1 in
    let starts = c.loop-j.starts in
    let places = c.loop-j.places in
    let start = slice_index starts (slice_index c.args.parents.now j) + slice_index starts j in
    let place = start + slice_index c.args.below.now j + 1 in
    let in_starts : j < length starts = omega arith in
    let in_places : j < length places = omega arith in
    let here = get_or-set_at starts j j start 0 refl in_starts in
    placed_more (length c.args.parents.now) (slice_index c.args.parents.now) (slice_index c.args.below.now)
    (slice_index c.args.starts.now) (table_rising c.args.parents.now c.requires.table) c.requires.counted
    j c.loop-j.j (slice_index starts) (slice_index places) (omega arith) (omega arith) (omega arith) c.loop-j.invariant
    (slice_index (slice_set starts j start)) (slice_index (slice_set places j place)) here (λ x ne. get_or-set_other starts j x start 0 ne)
    (get_or-set_at places j j place 0 refl in_places ∙ ap (λ v. v + slice_index c.args.below.now j + 1) (sym here))
    (λ x ne. get_or-set_other places j x place 0 ne)

pub bounds-starts-parents : goal.bounds-starts-parents
bounds-starts-parents c = let within = table_within c.args.parents.now c.requires.table (c.loop-j.j - 1) in omega arith

pub returns-clause-places : goal.returns-clause-places
returns-clause-places c =
    table_places c.args.parents.now c.requires.table (slice_index c.args.below.now)
    (slice_index c.args.starts.now) (slice_index c.loop-j.starts) (slice_index c.loop-j.places) c.requires.counted
    c.loop-j.j (omega arith) c.loop-j.invariant

pub returns-clause-before : goal.returns-clause-before
returns-clause-before c =
    table_before c.args.parents.now c.requires.table (slice_index c.args.below.now)
    (slice_index c.args.starts.now) (slice_index c.loop-j.starts) (slice_index c.loop-j.places) c.requires.counted
    c.loop-j.j (omega arith) c.loop-j.invariant
