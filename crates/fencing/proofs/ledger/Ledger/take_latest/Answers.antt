use Rattle.std.proofs.Common.{◌≡◌, ◌+◌, ◌-◌, ℕ, [], ◌∙◌, arith, subst, ⊎_elim}
use Rattle.lists.proofs.Orders.{lt_or_le}
use Rattle.fencing.specs.Takings.{Takes}
use Rattle.fencing.proofs.Taken.{takes_more}
use Rattle.fencing.proofs.ledger.Ledger.take_latest.Goals as goal

pub loop-lacking-smaller : goal.loop-lacking-smaller
loop-lacking-smaller c =
    ⊎_elim
    (λ less. omega (arith, c.in_ok-lacking.ensures.smaller less, c.in_ok-lacking.ensures.amount))
    (λ all. omega (arith, all, c.in_ok-lacking.ensures.long, c.in_ok-lacking.ensures.amount, c.loop-lacking-test.true))
    (lt_or_le c.in_ok-lacking.field-0 c.loop-lacking.lacking)

pub loop-lacking-preserved : goal.loop-lacking-preserved
loop-lacking-preserved c =
    let a = c.in_ok-lacking.field-0 in
    let before = c.loop-lacking.lacking in
    let low = c.in_ok-lacking.ensures.amount in
    let sum : c.args.need - before + a ≡ c.args.need - (before - a) = omega (arith, low, c.loop-lacking.invariant.less) in
    record {
      less = omega (arith, c.loop-lacking.invariant.less);
      enough = omega (arith, (c.in_ok-lacking.ensures.takes []).less, c.loop-lacking.invariant.enough);
      takes = λ items. subst (λ (n : ℕ). Takes items c.args.task n c.args.self.now.pieces.items c.take_top.new.self.pieces.items c.args.self.now.takings.items c.take_top.new.self.takings.items) sum
          (takes_more items c.args.task (c.args.need - before) a c.args.self.now.pieces.items c.loop-lacking.self.pieces.items c.take_top.new.self.pieces.items
          c.args.self.now.takings.items c.loop-lacking.self.takings.items c.take_top.new.self.takings.items (c.loop-lacking.invariant.takes items) (c.in_ok-lacking.ensures.takes items));
      same = λ more. omega (arith, more, c.in_ok-lacking.ensures.same (omega arith), c.loop-lacking.invariant.same (omega arith));
      few = omega (arith, c.in_ok-lacking.ensures.few, c.loop-lacking.invariant.same (omega arith));
      none = λ zero. absurd (omega arith);
      pool = c.in_ok-lacking.ensures.pool ∙ c.loop-lacking.invariant.pool;
      places = c.in_ok-lacking.ensures.places ∙ c.loop-lacking.invariant.places;
    }

pub returns-clause-takes : goal.returns-clause-takes
returns-clause-takes c = λ items.
    let none : c.args.need - c.loop-lacking.lacking ≡ c.args.need = omega arith in
    subst (λ (n : ℕ). Takes items c.args.task n c.args.self.now.pieces.items c.loop-lacking.self.pieces.items c.args.self.now.takings.items c.loop-lacking.self.takings.items) none (c.loop-lacking.invariant.takes items)
