use Rattle.std.proofs.Common.{◌≡◌, arith, subst, ap, length, get_or}
use Rattle.patterns.specs.Pattern.{has, is_joined}
use Rattle.elimination.proofs.VertexLists.{row_within}
use Rattle.elimination.specs.Quotients.{at, inner_at}
use Rattle.elimination.specs.Twins.{AreTouched}
use Rattle.elimination.proofs.Touches.{all_touched_none, all_touched_more}
use Rattle.elimination.proofs.twins.touch_all.Goals as goal

pub touch-requires-clause-row : goal.touch-requires-clause-row
touch-requires-clause-row c = λ j lt.
    let k = row_within c.args.pattern.now (get_or c.args.list.now c.loop-x.x-index 0) c.neighbours.result.now
    c.keeps.ensures c.neighbours.ensures j lt in
    omega arith

pub loop-x-init : goal.loop-x-init
loop-x-init c = record {
  linked = c.requires.linked;
  leads = λ part h. h;
  touched = λ part h. all_touched_none (is_joined c.args.pattern.now) (at c.args.turns.now) part c.args.list.now (inner_at c.args.rims.now);
}

pub loop-x-preserved : goal.loop-x-preserved
loop-x-preserved c = record {
  linked = c.in_ok-touch.ensures.linked;
  leads = λ part h. c.in_ok-touch.ensures.leads part (c.loop-x.invariant.leads part h);
  touched = λ part h. all_touched_more (is_joined c.args.pattern.now) (at c.args.turns.now) part c.args.list.now c.loop-x.x-index
      (inner_at c.args.rims.now) (inner_at c.loop-x.rims) (inner_at c.touch.new.rims)
      c.neighbours.result.now (c.loop-x.invariant.touched part h) c.loop-x-test.true (λ y. ap (λ z. has z y) c.neighbours.ensures)
      (c.in_ok-touch.ensures.touched part (c.loop-x.invariant.leads part h));
}

pub returns-clause-touched : goal.returns-clause-touched
returns-clause-touched c = λ part h.
    let e : c.loop-x.x-index ≡ length c.args.list.now = omega arith in
    subst (λ z. AreTouched (is_joined c.args.pattern.now) (at c.args.turns.now) part c.args.list.now z (inner_at c.args.rims.now)
    (inner_at c.loop-x.rims)) e (c.loop-x.invariant.touched part h)
