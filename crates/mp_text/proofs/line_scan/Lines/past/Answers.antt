use Rattle.std.proofs.Common.{length, arith, ap, rules}
use Rattle.mp_text.proofs.TextLemmas.{lines_of-empty}
use Rattle.mp_text.proofs.line_scan.Lines.past.Goals as goal

pub returns : goal.returns
returns c = rw (← c.self.view_is)
    (omega (arith, c.loop-rest.invariant.count, ap length (lines_of-empty c.loop-rest.rest.now (search (rules, c.loop-rest-test.false)))))
