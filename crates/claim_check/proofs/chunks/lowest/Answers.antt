use Rattle.std.proofs.Common.{◌+◌, ◌-◌, ◌/◌, sym, ◌∙◌, arith}
use Rattle.plans.specs.Plan.{claim_at}
use Rattle.claim_check.proofs.Chunked.{lowest_of_term, lowest_inside, lowest_outside}
use Rattle.claim_check.proofs.Outside.{passes_0}
use Rattle.claim_check.proofs.chunks.lowest.Goals as goal

pub returns-then-is_some : goal.returns-then-is_some
returns-then-is_some g c =
    let ps = c.args.view.now.positions in
    let cs = c.args.view.now.claims in
    let r = c.first_of-first in
    lowest_inside ps (claim_at cs) (passes_0 ps cs c.len.ensures.claims.rising) r.result (sym c.is_some.ensures ∙ c.if-is_some.true)
    (lowest_of_term ps (claim_at cs) ((c.len.result - 1) / c.args.workers + 1) c.in_ok-lowest.lowest.items
    (omega arith) c.in_ok-lowest.ensures.len
    c.in_ok-lowest.ensures.each c.deref.result.now c.deref.ensures.value r.result r.ensures)

pub returns : goal.returns
returns g c =
    let ps = c.args.view.now.positions in
    let cs = c.args.view.now.claims in
    let r = c.first_of-first in
    lowest_outside ps (claim_at cs) (passes_0 ps cs c.len.ensures.claims.rising) r.result (sym c.is_some.ensures ∙ c.if-is_some.false)
    (lowest_of_term ps (claim_at cs) ((c.len.result - 1) / c.args.workers + 1) c.in_ok-lowest.lowest.items
    (omega arith) c.in_ok-lowest.ensures.len
    c.in_ok-lowest.ensures.each c.deref.result.now c.deref.ensures.value r.result r.ensures)
    c.first_outside.result c.first_outside.ensures
