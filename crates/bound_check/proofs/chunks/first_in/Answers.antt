use Rattle.std.proofs.Common.{arith}
use Rattle.lists.proofs.Options.{some_none}
use Rattle.bound_check.proofs.Places.{passes_here, one_more, fails_here}
use Rattle.bound_check.proofs.chunks.first_in.Goals as goal

pub returns-in-Some : goal.returns-in-Some
returns-in-Some c =
    let cs = c.args.claims.now in
    fails_here c.args.view.now.positions cs c.args.view.now.claims c.args.from c.args.to c.loop-i.i c.in-Some.shape c.requires.claims
    (omega arith) (omega arith) (λ passes. some_none (c.in-Some.ensures.none.1 passes)) c.in-Some.ensures.shape c.loop-i.invariant

pub loop-i-preserved : goal.loop-i-preserved
loop-i-preserved c =
    let ps = c.args.view.now.positions in
    let cs = c.args.claims.now in
    one_more ps cs c.args.from c.loop-i.i c.loop-i.invariant
    (passes_here ps cs c.args.view.now.claims c.loop-i.i c.requires.claims (c.check_at.ensures.none.0 c.in_default.is))

pub returns : goal.returns
returns c = λ k low high. c.loop-i.invariant k low (omega (arith, c.loop-i-test.false, c.loop-i.auto.i-end))
