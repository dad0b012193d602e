use Rattle.std.proofs.Common.{◌≡◌, ◌≢◌, ◌++◌, ◌∷◌, [], ℕ, arith, subst}
use Rattle.elimination.specs.Quotients.{at, inner_at}
use Rattle.elimination.proofs.Touches.{touched_none, touched_skip, touched_more}
use Rattle.elimination.proofs.twins.touch.Goals as goal

pub loop-b-init : goal.loop-b-init
loop-b-init c = record {
  linked = c.requires.linked;
  leads = λ part h. h;
  touched = λ part h. touched_none (at c.args.turns.now) part c.args.x c.args.row.now (inner_at c.args.rims.now);
}

pub loop-b-preserved-then-turns-b-eq0 : goal.loop-b-preserved-then-turns-b-eq0
loop-b-preserved-then-turns-b-eq0 c = record {
  linked = c.loop-b.invariant.linked;
  leads = c.loop-b.invariant.leads;
  touched = λ part h. touched_skip (at c.args.turns.now) part c.args.x c.args.row.now c.loop-b.b-index (inner_at c.args.rims.now)
      (inner_at c.loop-b.rims) (c.loop-b.invariant.touched part h) c.if-turns-b-eq0.true;
}

pub loop-b-preserved : goal.loop-b-preserved
loop-b-preserved c = record {
  linked = c.last_of-part.ensures.linked;
  leads = λ part h. c.last_of-part.ensures.leads part (c.loop-b.invariant.leads part h);
  touched = λ part h.
      let row = c.args.row.now in
      let i = c.loop-b.b-index in
      let is : c.last_of-part.result ≡ part (at row i) = c.last_of-part.ensures.found part (c.loop-b.invariant.leads part h) in
      let pushed = subst (λ z. inner_at c.push_at.new.lists z ≡ inner_at c.loop-b.rims z ++ c.args.x ∷ []) is
      c.in_ok-push_at.ensures.pushed in
      let others = subst (λ z. (y : ℕ) → y ≢ z → inner_at c.push_at.new.lists y ≡ inner_at c.loop-b.rims y) is
      c.in_ok-push_at.ensures.others in
      touched_more (at c.args.turns.now) part c.args.x row i (inner_at c.args.rims.now) (inner_at c.loop-b.rims)
      (c.loop-b.invariant.touched part h) (inner_at c.push_at.new.lists) (omega arith) pushed others;
}
