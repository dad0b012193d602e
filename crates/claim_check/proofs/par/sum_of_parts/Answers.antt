use Rattle.std.proofs.Common.{◌≡◌, ◌+◌, ◌-◌, ◌<◌, ◌^◌, ap, sym, ◌∙◌, subst, arith}
use Rattle.std.specs.Prelude.{option_map, is_some, ◌||◌}
use Rattle.sp_terms.specs.declared.position.Values.{Values}
use Rattle.sp_terms.specs.Places.{term_of_position}
use Rattle.claim_rules.specs.Rules.{value_in}
use Rattle.plans.specs.Plan.{claim_of, claim_at, direction_of}
use Rattle.claim_check.proofs.Sums.{Summed, par_at, step_at, summed_none, summed_more}
use Rattle.claim_check.proofs.par.sum_of_parts.Goals.{then-some, else-some}
use Rattle.claim_check.proofs.par.sum_of_parts.Goals as goal

pub loop-left-init : goal.loop-left-init
loop-left-init c = summed_none _ _ _ _ _ (par_at c.args.view.now.positions c.args.position c.args.parts c.requires.placed c.requires.par)

pub part-part-requires : goal.part-part-requires
part-part-requires c = let s =
    step_at c.args.view.now.positions c.args.position _ _ c.requires.placed c.loop-left-test.true c.loop-left.invariant.walk in
    let l = s.low in let h = s.high in (omega (arith, l), omega (arith, h, c.requires.at.1))

pub overflow_sub-here-in-loop-left : goal.overflow_sub-here-in-loop-left
overflow_sub-here-in-loop-left c = let s =
    step_at c.args.view.now.positions c.args.position _ _ c.requires.placed c.loop-left-test.true c.loop-left.invariant.walk in
    let e = ap (λ (v : Values). v.width) c.part-part.ensures.values in
    let r = s.room in omega (arith, r, e)

pub loop-left-preserved : goal.loop-left-preserved
loop-left-preserved c =
    let ps = c.args.view.now.positions in
    let f = claim_at c.args.view.now.claims in
    let claim = option_map claim_of c.part-part.result.claim in
    let some : c.if-some.some ≡ (c.loop-left.some || is_some claim) =
    elim c.if-some.branch [ then-some w ↦ grind arith | else-some w ↦ grind arith ] in
    let value : c.from-total.result ≡ value_in (direction_of c.args.dir) (term_of_position ps c.loop-left.here) claim =
    c.from-total.ensures ∙ c.value_in.ensures (term_of_position ps c.loop-left.here) c.part-part.ensures.values in
    let small : c.from-total.result < 2 ^ 64 = omega (arith, c.from-total.ensures, c.value_in.type_inv) in
    subst (λ b. Summed ps f (direction_of c.args.dir) c.args.position c.args.parts (c.loop-left.left - 1)
    (c.loop-left.here - c.part-part.result.values.width) (c.loop-left.total + c.from-total.result) b) (sym some)
    (summed_more ps f
    (direction_of c.args.dir) c.args.position c.args.parts c.loop-left.left c.loop-left.here c.loop-left.total c.loop-left.some
    c.requires.placed c.loop-left-test.true c.loop-left.invariant c.part-part.result.values.width c.from-total.result claim
    (ap (λ (v : Values). v.width) c.part-part.ensures.values) c.part-part.ensures.claim value small)
