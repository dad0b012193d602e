use Rattle.std.proofs.Common.{◌≡◌, ◌≢◌, ◌⊎◌, ◌≤◌, ◌+◌, ◌-◌, ◌++◌, ◌∷◌, [], ℕ, List, get_or, set}
use Rattle.std.proofs.Common.{take, vec_len, arith, inl, inr, sym, ap, subst, ◌∙◌, Vec, Global}
use Rattle.std.proofs.lemmas.List.{take-append-le}
use Rattle.graphs.specs.Queue.{arc_at, IsPartTaken, IsArcRow}
use Rattle.graphs.proofs.QueueLemmas.{waits-some, part-keep, part-push, part-all, sum-set, same-at}
use Rattle.graphs.proofs.queue.take_next.Goals as goal
use Rattle.graphs.proofs.queue.take_next.Goals.{then-to-ne0+then-waits-to-eq0+in_ok-push, else-to-ne0}
use Rattle.graphs.proofs.queue.take_next.Goals.{else-to-ne0-via-then-to-ne0+else-waits-to-eq0, else-to-ne0-via-else-to-ne0}

pub overflow_sub-waits : goal.overflow_sub-waits
overflow_sub-waits c =
    let l = c.loop-k in
    let arcs = c.args.arcs.now in
    let row = c.args.row.now in
    let is_row =
    subst (IsArcRow arcs row) (sym (same-at l.queue.items c.args.queue.now.items c.args.at l.invariant.first)) c.requires.row in
    waits-some c.args.count arcs l.waits l.queue.items c.args.at row l.k-index l.invariant.part c.requires.within is_row c.loop-k-test.true

pub loop-k-preserved : goal.loop-k-preserved
loop-k-preserved c =
    let l = c.loop-k in
    let n = c.args.count in
    let at = c.args.at in
    let arcs = c.args.arcs.now in
    let row = c.args.row.now in
    let to = (arc_at arcs (get_or row l.k-index 0)).to in
    let w0 = get_or l.waits to 0 - 1 in
    let is_row = subst (IsArcRow arcs row) (sym (same-at l.queue.items c.args.queue.now.items at l.invariant.first)) c.requires.row in
    let some = waits-some n arcs l.waits l.queue.items at row l.k-index l.invariant.part c.requires.within is_row c.loop-k-test.true in
    let w_is : w0 + 1 ≡ get_or l.waits to 0 = omega (arith, some) in
    let fewer =
    sum-set n arcs l.waits l.queue.items at row l.k-index l.invariant.part c.requires.within is_row c.loop-k-test.true w0 w_is in
    elim c.if-to-ne0.branch [
      | then-to-ne0+then-waits-to-eq0+in_ok-push w ↦ (
          let items : c.if-to-ne0.queue.items ≡ l.queue.items ++ to ∷ [] =
          ap (λ (v : Vec ℕ Global). v.items) w.queue-is ∙ w.in_ok-push.ensures.items in
          let len : vec_len c.if-to-ne0.queue ≡ vec_len l.queue + 1 =
          ap (λ (v : Vec ℕ Global). vec_len v) w.queue-is ∙ w.in_ok-push.ensures.len in
          let low : 1 ≤ to = omega (arith, w.if-to-ne0.true) in
          record {
            part = subst (λ (q : List ℕ). IsPartTaken n arcs (set l.waits to w0) q at row (l.k-index + 1)) (sym items)
                (part-push n arcs l.waits l.queue.items at row l.k-index l.invariant.part
                c.requires.within is_row c.loop-k-test.true w0 w_is low w.if-waits-to-eq0.true);
            first = ap (take (at + 1)) items
                ∙ take-append-le (at + 1) l.queue.items (to ∷ []) (omega (arith, l.invariant.part.short)) ∙ l.invariant.first;
            fewer = omega (arith, fewer, len, l.invariant.fewer);
          }
          )
      | else-to-ne0 w ↦ (
          let why : (to ≡ 0) ⊎ (get_or (set l.waits to w0) to 0 ≢ 0) = elim w.else-to-ne0.branch [
            | else-to-ne0-via-then-to-ne0+else-waits-to-eq0 u ↦ inr u.if-waits-to-eq0.false
            | else-to-ne0-via-else-to-ne0 u ↦ inl u.if-to-ne0.false
          ] in
          rw w.queue-is (record {
            part = part-keep n arcs l.waits l.queue.items at row l.k-index
                l.invariant.part c.requires.within is_row c.loop-k-test.true w0 w_is why;
            first = l.invariant.first;
            fewer = omega (arith, fewer, l.invariant.fewer);
          })
          )
    ]

pub returns-clause-taken : goal.returns-clause-taken
returns-clause-taken c =
    let l = c.loop-k in
    let is_row = subst (IsArcRow c.args.arcs.now c.args.row.now)
    (sym (same-at l.queue.items c.args.queue.now.items c.args.at l.invariant.first)) c.requires.row in
    part-all c.args.count c.args.arcs.now l.waits l.queue.items c.args.at
    c.args.row.now l.k-index l.invariant.part is_row c.loop-k-test.false
