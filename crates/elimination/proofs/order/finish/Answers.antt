use Rattle.std.proofs.Common.{◌≡◌, ◌+◌, length, ℕ, List, arith, subst, sym}
use Rattle.elimination.specs.Quotients.{at}
use Rattle.elimination.specs.Progress.{IsFinishing}
use Rattle.elimination.proofs.Finishings.{finishing_skip, finishing_next}
use Rattle.elimination.proofs.order.finish.Goals as goal
use Rattle.elimination.proofs.order.finish.Goals.{In_ok-push, Then-turns-v-ne0}

-- a vertex that was gone
skipped : (c : Then-turns-v-ne0) (rows : List (List ℕ)) → length rows ≡ c.args.n
    → IsFinishing rows c.args.vertices.now.items (at c.args.turns.now) 1
    → IsFinishing rows c.loop-v.vertices.items (at c.args.turns.now) (c.loop-v.v + 1)
skipped c rows len start = finishing_skip rows c.loop-v.vertices.items (at c.args.turns.now) c.loop-v.v
    (c.loop-v.invariant rows len start) c.if-turns-v-ne0.true

-- one that is listed
listed : (c : In_ok-push) (rows : List (List ℕ)) → length rows ≡ c.args.n
    → IsFinishing rows c.args.vertices.now.items (at c.args.turns.now) 1
    → IsFinishing rows c.push.new.self.items (at c.args.turns.now) (c.loop-v.v + 1)
listed c rows len start =
    let l = c.loop-v in
    let more = finishing_next rows l.vertices.items (at c.args.turns.now) l.v (l.invariant rows len start) (omega arith, omega arith)
    (omega arith) in
    subst (λ z. IsFinishing rows z (at c.args.turns.now) (l.v + 1)) (sym c.in_ok-push.ensures.items) more

pub loop-v-preserved-then-turns-v-ne0 : goal.loop-v-preserved-then-turns-v-ne0
loop-v-preserved-then-turns-v-ne0 c = skipped (goal.at.loop-v-preserved-then-turns-v-ne0 c).Then-turns-v-ne0

pub loop-v-preserved : goal.loop-v-preserved
loop-v-preserved c = listed (goal.at.loop-v-preserved c).In_ok-push

pub returns-then-turns-v-ne0 : goal.returns-then-turns-v-ne0
returns-then-turns-v-ne0 c = λ rows len start.
    let e : c.loop-v.v ≡ c.args.n = omega arith in
    subst (λ z. IsFinishing rows c.loop-v.vertices.items (at c.args.turns.now) (z + 1)) e
    (skipped (goal.at.returns-then-turns-v-ne0 c).Then-turns-v-ne0 rows len start)

pub returns-in_ok-push : goal.returns-in_ok-push
returns-in_ok-push c = λ rows len start.
    let e : c.loop-v.v ≡ c.args.n = omega arith in
    subst (λ z. IsFinishing rows c.push.new.self.items (at c.args.turns.now) (z + 1)) e
    (listed (goal.at.returns-in_ok-push c).In_ok-push rows len start)

pub returns : goal.returns
returns c = λ rows len start.
    let e : c.loop-v.v ≡ c.args.n + 1 = omega arith in
    subst (λ z. IsFinishing rows c.loop-v.vertices.items (at c.args.turns.now) z) e (c.loop-v.invariant rows len start)
