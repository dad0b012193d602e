use Rattle.std.proofs.Common.{◌≡◌, ◌+◌, ◌-◌, ℕ, ◌∙◌, arith, subst}
use Rattle.fencing.specs.Takings.{Takes}
use Rattle.fencing.proofs.Taken.{takes_more}
use Rattle.fencing.proofs.ledger.Ledger.take_from_suppliers.Goals as goal

pub loop-index-preserved : goal.loop-index-preserved
loop-index-preserved c =
    let a = c.in_ok-lacking.field-0 in
    let before = c.loop-index.lacking in
    let low = c.in_ok-lacking.ensures.amount in
    let sum : c.args.need - before + a ≡ c.args.need - (before - a) = omega (arith, low, c.loop-index.invariant.less) in
    record {
      less = omega (arith, c.loop-index.invariant.less);
      takes = subst (λ (n : ℕ). Takes c.args.items.now c.args.task n c.args.self.now.pieces.items c.take_along.new.self.pieces.items c.args.self.now.takings.items c.take_along.new.self.takings.items) sum
          (takes_more c.args.items.now c.args.task (c.args.need - before) a c.args.self.now.pieces.items c.loop-index.self.pieces.items c.take_along.new.self.pieces.items
          c.args.self.now.takings.items c.loop-index.self.takings.items c.take_along.new.self.takings.items c.loop-index.invariant.takes c.in_ok-lacking.ensures.takes);
      fences = c.in_ok-lacking.ensures.fences ∙ c.loop-index.invariant.fences;
      long = c.in_ok-lacking.ensures.long ∙ c.loop-index.invariant.long;
      pool = c.in_ok-lacking.ensures.pool ∙ c.loop-index.invariant.pool;
      places = c.in_ok-lacking.ensures.places ∙ c.loop-index.invariant.places;
    }
