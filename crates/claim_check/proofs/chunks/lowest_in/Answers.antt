use Rattle.std.proofs.Common.{sym, ◌∙◌, arith}
use Rattle.plans.specs.Plan.{claim_at}
use Rattle.claim_check.specs.Judged.{PassesAt}
use Rattle.claim_check.proofs.Chunked.{one_more, is_none}
use Rattle.claim_check.proofs.chunks.lowest_in.Goals as goal

pub loop-position-preserved : goal.loop-position-preserved
loop-position-preserved c = one_more (PassesAt c.args.view.now.positions (claim_at c.args.view.now.claims))
    c.args.from c.loop-position.position c.loop-position.invariant
    (c.check_at.ensures.none.0 (is_none c.check_at.result (sym c.is_some.ensures ∙ c.if-is_some.false)))

pub returns : goal.returns
returns c = λ k low high. c.loop-position.invariant k low (omega (arith, c.loop-position-test.false, c.loop-position.auto.position-end))
