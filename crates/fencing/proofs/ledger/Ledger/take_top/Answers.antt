use Rattle.fencing.proofs.Taken.{takes_top}
use Rattle.std.proofs.Common.{◌≤◌, arith}
use Rattle.fencing.proofs.ledger.Ledger.take_top.Goals as goal

pub returns-clause-takes : goal.returns-clause-takes
returns-clause-takes c = λ items.
    let top = c.in-Some.top in
    let low : c.min-amount.result ≤ top.amount = omega (arith, c.min-amount.ensures) in
    rw (c.in-Some.ensures.items, c.in_ok-put.ensures, c.in_ok-note.ensures)
    (takes_top items c.args.task c.min-amount.result top c.pop.new.self.items c.args.self.now.takings.items low)
