use Rattle.std.proofs.Common.{◌+◌, ◌-◌, arith}
use Rattle.fencing.proofs.Taken.{takes_more}
use Rattle.fencing.proofs.ledger.Ledger.take.Goals as goal

pub returns-clause-takes : goal.returns-clause-takes
returns-clause-takes c =
    let need = c.args.need in
    let lacking = c.in_ok-lacking.lacking in
    let drawn = c.min-drawn.result in
    let first = c.in_ok-lacking.ensures.takes in
    let amount = need - lacking + (lacking - drawn) in (
      amount,
      omega (arith, first.0),
      omega (arith, first.0, c.min-drawn.ensures, c.in_ok-lacking.ensures.pool, c.in_ok-take_latest.ensures.pool),
      takes_more c.args.items.now c.args.task (need - lacking) (lacking - drawn) c.args.self.now.pieces.items c.take_from_suppliers.new.self.pieces.items c.take_latest.new.self.pieces.items
          c.args.self.now.takings.items c.take_from_suppliers.new.self.takings.items c.take_latest.new.self.takings.items first.1 (c.in_ok-take_latest.ensures.takes c.args.items.now),
    )
