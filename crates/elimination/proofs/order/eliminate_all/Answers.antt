use Rattle.std.proofs.Common.{◌+◌, length, arith, subst, sym, ◌∙◌, ap}
use Rattle.patterns.specs.Pattern.{is_joined}
use Rattle.elimination.specs.Elimination.{eliminated}
use Rattle.elimination.specs.Quotients.{at}
use Rattle.elimination.specs.Tables.{tables}
use Rattle.elimination.specs.Progress.{IsUnderWay, IsFinishing}
use Rattle.elimination.proofs.BoundSteps.{at_other, at_here}
use Rattle.elimination.proofs.Finishings.{finishing_first, finishing_last}
use Rattle.elimination.proofs.Progressing.{under_way_next}
use Rattle.elimination.proofs.order.eliminate_all.Goals as goal
use Rattle.elimination.proofs.order.eliminate_all.Goals.{In_ok-push, In_ok-finish}

pub loop-place-preserved : goal.loop-place-preserved
loop-place-preserved c =
    let rows = c.args.pattern.now in
    let l = c.loop-place in
    let v = c.in_ok-vertex.vertex in
    let turns = l.search.turns.items in
    let done = c.in_ok-vertex.ensures in
    let e = done.eliminated (eliminated (is_joined rows) l.vertices.items) l.invariant.stands.search in
    let inside = e.vertex.1 in
    let len = l.invariant.lengths.turns in
    record {
      lengths = done.lengths;
      stands = subst (λ z. IsUnderWay rows z (tables c.eliminate_next.new.self) (l.place + 1)) (sym c.in_ok-push.ensures.items)
          (under_way_next rows l.vertices.items (tables l.search) l.place l.invariant.stands (tables c.eliminate_next.new.self) v e
          (ap (λ z. at z v) done.turn ∙ at_here turns v l.place (omega arith))
          (λ x ne. ap (λ z. at z x) done.turn ∙ at_other turns v l.place x ne));
    }

finished : (c : In_ok-finish) → IsFinishing c.args.pattern.now c.finish.new.vertices.items (at c.deref.result.now)
    (length c.args.pattern.now + 1)
finished c =
    let rows = c.args.pattern.now in
    let l = c.loop-place in
    let start = finishing_first rows l.vertices.items (tables l.search) l.place l.invariant.stands c.least.ensures.0
    c.least.ensures.1 (omega (arith, c.least.ensures.2)) in
    let start' : IsFinishing rows l.vertices.items (at c.deref.result.now) 1 = subst (λ z. IsFinishing rows l.vertices.items (at z) 1)
    (sym c.deref.ensures.value) start in
    subst (λ n. IsFinishing rows c.finish.new.vertices.items (at c.deref.result.now) (n + 1)) c.rows-n.ensures.value
    (c.in_ok-finish.ensures rows (sym c.rows-n.ensures.value) start')

pub returns-then-from-least-clause-len : goal.returns-then-from-least-clause-len
returns-then-from-least-clause-len c =
    finishing_last c.args.pattern.now c.finish.new.vertices.items (at c.deref.result.now)
    (finished (goal.at.returns-then-from-least-clause-len c).In_ok-finish)

pub returns-then-from-least-clause-begun : goal.returns-then-from-least-clause-begun
returns-then-from-least-clause-begun c = (finished (goal.at.returns-then-from-least-clause-begun c).In_ok-finish).begun
