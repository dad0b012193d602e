use Rattle.std.proofs.Common.{rules, ◌≡◌, ◌+◌, ◌-◌, ℕ, List, map, arith, ap, sym, subst, ◌∙◌}
use Rattle.row_table.specs.Rows.{numbers_with}
use Rattle.spill_plan.specs.declared.span.Span.{Span}
use Rattle.spill_plan.proofs.Rankings.{AreRanked, ranked-first, ranked-next, ranked-all, row_members}
use Rattle.spill_plan.proofs.ranking.rank_by_end.Goals as goal

pub loop-end-init : goal.loop-end-init
loop-end-init c = subst (AreRanked c.args.spans.now (c.args.steps + 1)) (sym c.in_ok-ranks.ensures.items)
    (ranked-first c.args.spans.now c.args.steps c.requires)

pub loop-end-preserved : goal.loop-end-preserved
loop-end-preserved c =
    let xs = c.args.spans.now in
    let k = c.loop-end.end - 1 in
    let ends : c.in_ok-ends.ends.items ≡ map (λ (x : Span). x.end) xs = search rules in
    let keys : c.deref.result.now ≡ map (λ (x : Span). x.end) xs = c.deref.ensures.value ∙ ends in
    let row : c.row.result.now ≡ numbers_with (map (λ (x : Span). x.end) xs) 0 k = c.row.ensures
    ∙ c.in_ok-rows.ensures.rows k (omega (arith, c.loop-end.auto.end)) ∙ ap (λ (ys : List ℕ). numbers_with ys 0 k) keys in
    let next : c.loop-end.end ≡ k + 1 = omega arith in
    let ranked = subst (λ e. AreRanked xs e c.loop-end.ranks.items) next c.loop-end.invariant in
    subst (AreRanked xs k) (sym c.in_ok-extend_from_slice.ensures.items)
    (ranked-next xs k c.loop-end.ranks.items c.row.result.now ranked row
    (row_members xs k c.row.result.now row (c.numbers_law.ensures.each (map (λ (x : Span). x.end) xs) 0 k)))

pub returns : goal.returns
returns c =
    let none : c.loop-end.end ≡ 0 = omega arith in
    ranked-all c.args.spans.now c.loop-end.ranks.items (subst (λ e. AreRanked c.args.spans.now e c.loop-end.ranks.items) none
    c.loop-end.invariant)
