use Rattle.std.proofs.Common.{◌+◌, sym, ◌∙◌, subst}
use Rattle.plans.specs.Plan.{claim_at}
use Rattle.claim_check.specs.Lowest.{IsLowestIn}
use Rattle.claim_check.proofs.Chunked.{lowest_inside, lowest_outside}
use Rattle.claim_check.proofs.Outside.{passes_0}
use Rattle.claim_check.proofs.alone.lowest_alone.Goals as goal

pub returns-then-is_some : goal.returns-then-is_some
returns-then-is_some c =
    let ps = c.args.view.now.positions in
    let cs = c.args.view.now.claims in
    lowest_inside ps (claim_at cs) (passes_0 ps cs c.len.ensures.claims.rising) c.lowest_in-first.result
    (sym c.is_some.ensures ∙ c.if-is_some.true)
    (subst (λ n. IsLowestIn ps (claim_at cs) 1 (n + 1) c.lowest_in-first.result) c.len.ensures.value c.lowest_in-first.ensures)

pub returns : goal.returns
returns c =
    let ps = c.args.view.now.positions in
    let cs = c.args.view.now.claims in
    lowest_outside ps (claim_at cs) (passes_0 ps cs c.len.ensures.claims.rising) c.lowest_in-first.result
    (sym c.is_some.ensures ∙ c.if-is_some.false)
    (subst (λ n. IsLowestIn ps (claim_at cs) 1 (n + 1) c.lowest_in-first.result) c.len.ensures.value c.lowest_in-first.ensures)
    c.first_outside.result c.first_outside.ensures
