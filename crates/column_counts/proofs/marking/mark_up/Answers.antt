use Rattle.std.proofs.Common.{◌≡◌, ℕ, ◌+◌, ◌<◌, length, arith, refl, sym, ◌∙◌, ap, inl, inr, set, slice_index}
use Rattle.std.proofs.lemmas.Bool.{cases_eq}
use Rattle.elim_tree.specs.Trees.{parent_at}
use Rattle.column_counts.proofs.MarkLemmas.{can_go_on, marked_up, closed_anywhere}
use Rattle.lists.proofs.Lists.{at_other, at_here}
use Rattle.column_counts.proofs.marking.mark_up.Goals as goal

pub way-init : goal.way-init
way-init c =
    let row = c.requires.row.0 in
    let can = c.requires.row.1 in
    let parent = parent_at c.args.parents.now in
    let anywhere =
    closed_anywhere row parent c.args.i c.args.start (slice_index c.args.counts.now) (slice_index c.args.marks.now) can.3 in (
      can_go_on row parent c.args.i can.0 c.args.start (slice_index c.args.counts.now)
          (slice_index c.args.marks.now) can.2 anywhere (can.1 c.args.start),
      λ row can. (
        closed_anywhere row parent c.args.i c.args.start (slice_index c.args.counts.now) (slice_index c.args.marks.now) can.3,
        can.2,
        inr refl,
        λ x e. e,
      ),
    )

pub way-preserved : goal.way-preserved
way-preserved c =
    let more = c.way.invariant.0.1 c.way-test.true in
    let below = more.0 in
    let z = c.way.column in
    let parent = parent_at c.args.parents.now in
    let in_marks : z < length c.way.marks = omega arith in
    let in_counts : z < length c.way.counts = omega arith in
    let marks' = set c.way.marks z c.args.i in
    let counts' = set c.way.counts z (slice_index c.way.counts z + 1) in
    let hm = at_here c.way.marks z c.args.i in_marks in
    let om = at_other c.way.marks z c.args.i in
    let hc = at_here c.way.counts z (slice_index c.way.counts z + 1) in_counts in
    let oc = at_other c.way.counts z (slice_index c.way.counts z + 1) in
    let row = c.requires.row.0 in
    let can = c.requires.row.1 in
    let now = c.way.invariant.1 row can in
    let next = marked_up row parent c.args.i can.0 z (slice_index c.way.counts)
    (slice_index c.way.marks) now.1 now.0 c.way-test.true (slice_index counts') (slice_index marks') hc oc hm om in
    rw c.at-column.ensures.value (
      can_go_on row parent c.args.i can.0 (parent z) (slice_index counts') (slice_index marks') next.1 next.0 (can.1 (parent z)),
      λ row can.
          let now = c.way.invariant.1 row can in
          let next = marked_up row parent c.args.i can.0 z (slice_index c.way.counts)
          (slice_index c.way.marks) now.1 now.0 c.way-test.true (slice_index counts') (slice_index marks') hc oc hm om in
          let stays : (x : ℕ) → slice_index c.way.marks x ≡ c.args.i → slice_index marks' x ≡ c.args.i =
          λ x e. elim (cases_eq x z) [ inl q ↦ ap (slice_index marks') q ∙ hm | inr nq ↦ om x nq ∙ e ] in (
            next.0,
            next.1,
            inl (elim now.2 [ inl e ↦ stays c.args.start e | inr e ↦ ap (slice_index marks') (sym e) ∙ hm ]),
            λ x e. stays x (now.3 x e),
          ),
    )

pub returns : goal.returns
returns c = λ row can.
    let now = c.way.invariant.1 row can in
    let m = now.0 in (
      record {
        count = m.count;
        sound = m.sound;
        own = m.own;
        low = m.low;
        closed = λ x h ne. elim (m.closed x h ne) [ inl k ↦ inl k | inr k ↦ inl (ap (slice_index c.way.marks) k ∙ c.way-test.false) ];
      },
      elim now.2 [ inl e ↦ e | inr e ↦ ap (slice_index c.way.marks) (sym e) ∙ c.way-test.false ],
      now.3,
    )
