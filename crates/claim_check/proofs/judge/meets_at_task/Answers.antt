use Rattle.std.proofs.Common.{◌-◌, ap, ◌∙◌, arith}
use Rattle.std.specs.Prelude.{option_map}
use Rattle.sp_terms.specs.declared.position.Values.{Values}
use Rattle.sp_terms.specs.Places.{term_of_position}
use Rattle.sp_terms.specs.Term.{width_of, initial_of, final_of}
use Rattle.sp_terms.specs.Values.{values_of}
use Rattle.plans.specs.Plan.{claim_of, claim_at}
use Rattle.claim_check.proofs.SeriesAt.{series_at, series_judged}
use Rattle.claim_check.proofs.judge.meets_at_task.Goals as goal

pub part-right-requires : goal.part-right-requires
part-right-requires c = let s = series_at c.args.view.now.positions c.args.position c.args.task.now c.requires.placed c.requires.task in
    let r = s.room in (omega (arith, r), omega (arith, c.requires.at.1))

pub overflow_sub-position-3 : goal.overflow_sub-position-3
overflow_sub-position-3 c = let s = series_at c.args.view.now.positions c.args.position c.args.task.now c.requires.placed c.requires.task in
    let e = ap (λ (v : Values). v.width) c.part-right.ensures.values ∙ ap width_of s.last_is in
    let r = s.room in omega (arith, r, e)

pub part-left-requires : goal.part-left-requires
part-left-requires c = let s = series_at c.args.view.now.positions c.args.position c.args.task.now c.requires.placed c.requires.task in
    let e = ap (λ (v : Values). v.width) c.part-right.ensures.values ∙ ap width_of s.last_is in
    let r = s.room in (omega (arith, r, e), omega (arith, r, e, c.requires.at.1))

pub hill-hill-requires : goal.hill-hill-requires
hill-hill-requires c = let s = series_at c.args.view.now.positions c.args.position c.args.task.now c.requires.placed c.requires.task in
    let ps = c.args.view.now.positions in
    let k = c.args.position in
    let w = ap (λ (v : Values). v.width) c.part-right.ensures.values ∙ ap width_of s.last_is in
    let right = ap (λ (v : Values). v.initial) c.part-right.ensures.values ∙ ap initial_of s.last_is in
    let left = ap (λ (v : Values). v.fin) c.part-left.ensures.values
    ∙ ap (λ n. final_of (term_of_position ps (k - 1 - n))) w ∙ ap final_of s.first_is in
    record { small = omega (arith, s.small, left, right); share = omega (arith, s.share, right) }

pub returns : goal.returns
returns c = let s = series_at c.args.view.now.positions c.args.position c.args.task.now c.requires.placed c.requires.task in
    let ps = c.args.view.now.positions in
    let k = c.args.position in
    let w = ap (λ (v : Values). v.width) c.part-right.ensures.values ∙ ap width_of s.last_is in
    let right = c.part-right.ensures.values ∙ ap values_of s.last_is in
    let left = c.part-left.ensures.values ∙ ap (λ n. values_of (term_of_position ps (k - 1 - n))) w ∙ ap values_of s.first_is in
    series_judged ps k c.args.task.now s (claim_at c.args.view.now.claims) (claim_of c.args.claim.now) c.meets_series.result
    (option_map claim_of c.part-left.result.claim) (option_map claim_of c.part-right.result.claim)
    (c.part-left.ensures.claim ∙ ap (λ n. claim_at c.args.view.now.claims (k - 1 - n)) w) c.part-right.ensures.claim
    (c.meets_series.ensures s.first s.last c.args.task.now left right (c.hill-hill.ensures s.first s.last left right))
