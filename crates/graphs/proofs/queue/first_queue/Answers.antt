use Rattle.std.proofs.Common.{◌+◌, List, ℕ, arith, subst, sym, ap, ◌∙◌, Vec, Global}
use Rattle.graphs.proofs.QueueLemmas.{IsFirst, first-none, first-skip, first-push, first-taken}
use Rattle.graphs.proofs.queue.first_queue.Goals as goal
use Rattle.graphs.proofs.queue.first_queue.Goals.{then-waits-v-eq0+in_ok-push, else-waits-v-eq0}

pub loop-v-init : goal.loop-v-init
loop-v-init c =
    subst (λ (queue : List ℕ). IsFirst c.args.count c.args.arcs.now c.args.waits.now queue 1) (sym c.new-queue.ensures.items)
    (first-none c.args.count c.args.arcs.now c.args.waits.now)

pub loop-v-preserved : goal.loop-v-preserved
loop-v-preserved c =
    let n = c.args.count in
    let arcs = c.args.arcs.now in
    let waits = c.args.waits.now in
    let v = c.loop-v.v in
    elim c.if-waits-v-eq0.branch [
      | then-waits-v-eq0+in_ok-push w ↦ subst (λ (queue : List ℕ). IsFirst n arcs waits queue (v + 1))
          (sym (ap (λ (q : Vec ℕ Global). q.items) w.queue-is ∙ w.in_ok-push.ensures.items))
          (first-push n arcs waits c.loop-v.queue.items v c.loop-v.invariant w.if-waits-v-eq0.true c.loop-v.auto.v
          (c.requires.waits v (omega (arith, c.loop-v-test.true))))
      | else-waits-v-eq0 w ↦ rw w.queue-is (first-skip n arcs waits c.loop-v.queue.items v c.loop-v.invariant w.if-waits-v-eq0.false)
    ]

pub returns : goal.returns
returns c =
    first-taken c.args.count c.args.arcs.now c.args.waits.now c.loop-v.queue.items c.loop-v.v
    (omega (arith, c.loop-v-test.false, c.loop-v.auto.v-end)) c.loop-v.invariant
    c.requires.len c.requires.waits
