use Rattle.std.proofs.Common.{arith, subst, sym}
use Rattle.elimination.specs.Tables.{tables, IsUntouched}
use Rattle.elimination.specs.Progress.{IsUnderWay}
use Rattle.elimination.proofs.Progressing.{under_way_first}
use Rattle.elimination.proofs.order.by_least_degree.Goals as goal

pub eliminate_all-requires-clause-start : goal.eliminate_all-requires-clause-start
eliminate_all-requires-clause-start c =
    let rows = c.args.pattern.now in
    let t = tables c.in_ok-search.search in
    let fresh : IsUntouched rows t = c.in_ok-search.ensures.fresh in
    let len = c.in_ok-search.ensures.lengths in
    let links = len.links in
    let bounds = len.bounds in
    subst (λ z. IsUnderWay rows z t 1) (sym c.in_ok-vertices.ensures.items)
    (under_way_first rows c.rows.ensures.pattern t fresh (omega arith) (omega arith))
