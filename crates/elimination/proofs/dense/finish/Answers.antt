use Rattle.std.proofs.Common.{◌+◌, ℕ, Bool, arith, subst, sym, ◌∙◌}
use Rattle.elimination.specs.Dense.{IsDenseRest}
use Rattle.elimination.proofs.DenseOrders.{rest_skip, rest_next, rest_last}
use Rattle.elimination.proofs.dense.finish.Goals as goal
use Rattle.elimination.proofs.dense.finish.Goals.{Then-not-has, In_ok-push}

-- a vertex that was gone
skipped : (c : Then-not-has) (joined : ℕ → ℕ → Bool) → IsDenseRest joined c.args.order c.args.alive.now c.args.vertices.now.items 1
    → IsDenseRest joined c.args.order c.args.alive.now c.loop-v.vertices.items (c.loop-v.v + 1)
skipped c joined start =
    rest_skip joined c.args.order c.args.alive.now c.loop-v.vertices.items c.loop-v.v (c.loop-v.invariant joined start)
    (sym c.has.ensures ∙ c.if-not-has.true)

-- one that is listed
listed : (c : In_ok-push) (joined : ℕ → ℕ → Bool) → IsDenseRest joined c.args.order c.args.alive.now c.args.vertices.now.items 1
    → IsDenseRest joined c.args.order c.args.alive.now c.push.new.self.items (c.loop-v.v + 1)
listed c joined start =
    subst (λ z. IsDenseRest joined c.args.order c.args.alive.now z (c.loop-v.v + 1)) (sym c.in_ok-push.ensures.items)
    (rest_next joined c.args.order c.args.alive.now c.loop-v.vertices.items c.loop-v.v (c.loop-v.invariant joined start)
    (sym c.has.ensures ∙ c.if-not-has.false))

pub loop-v-preserved-then-not-has : goal.loop-v-preserved-then-not-has
loop-v-preserved-then-not-has c = skipped (goal.at.loop-v-preserved-then-not-has c).Then-not-has

pub loop-v-preserved : goal.loop-v-preserved
loop-v-preserved c = listed (goal.at.loop-v-preserved c).In_ok-push

pub returns : goal.returns
returns c = λ joined start. rest_last joined c.args.order c.args.alive.now c.loop-v.vertices.items c.loop-v.v
    (c.loop-v.invariant joined start) (omega arith)

pub returns-then-not-has : goal.returns-then-not-has
returns-then-not-has c = λ joined start.
    rest_last joined c.args.order c.args.alive.now c.loop-v.vertices.items (c.loop-v.v + 1)
    (skipped (goal.at.returns-then-not-has c).Then-not-has joined start) (omega arith)

pub returns-in_ok-push : goal.returns-in_ok-push
returns-in_ok-push c = λ joined start.
    rest_last joined c.args.order c.args.alive.now c.push.new.self.items (c.loop-v.v + 1)
    (listed (goal.at.returns-in_ok-push c).In_ok-push joined start) (omega arith)
