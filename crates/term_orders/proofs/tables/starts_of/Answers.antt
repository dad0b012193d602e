use Rattle.std.proofs.Common.{ap, ◌∙◌, arith}
use Rattle.sp_terms.specs.declared.position.Values.{Values}
use Rattle.term_orders.proofs.TermTables.{starts_are, width_fits}
use Rattle.term_orders.proofs.tables.starts_of.Goals as goal

pub overflow_sub-i : goal.overflow_sub-i
overflow_sub-i c =
    let fits = width_fits c.args.terms.now c.loop-i.i c.keeps.ensures (omega (arith, c.in_ok-values.ensures.len)) in
    let width = ap (λ (v : Values). v.width)
    (c.index.ensures ∙ c.in_ok-values.ensures.each c.loop-i.i c.index.result.now (omega (arith, c.in_ok-values.ensures.len))) in
    omega (arith, fits, width)

pub returns-clause-starts : goal.returns-clause-starts
returns-clause-starts c =
    starts_are c.args.terms.now c.in_ok-values.values.items c.loop-i.starts.items c.loop-i.i c.keeps.ensures
    (omega (arith, c.in_ok-values.ensures.len)) c.in_ok-values.ensures.each c.loop-i.invariant
