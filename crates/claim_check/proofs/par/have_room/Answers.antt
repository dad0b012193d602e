use Rattle.std.proofs.Common.{◌-◌, ap, sym, ◌∙◌, subst, arith, IsTrue, false}
use Rattle.std.specs.Prelude.{option_map}
use Rattle.sp_terms.specs.declared.position.Values.{Values}
use Rattle.sp_terms.specs.Places.{term_of_position}
use Rattle.claim_rules.specs.Rules.{value_in, HasRoom}
use Rattle.plans.specs.Plan.{claim_of, claim_at, direction_of}
use Rattle.claim_check.proofs.Sums.{Roomy, par_at, step_at, roomy_none, roomy_more, value_below, room_same, room_here}
use Rattle.claim_check.proofs.par.have_room.Goals as goal

pub loop-left-init : goal.loop-left-init
loop-left-init c = roomy_none _ _ _ _ _ _ _ (par_at c.args.view.now.positions c.args.position c.args.parts c.requires.placed c.requires.par)

pub part-part-requires : goal.part-part-requires
part-part-requires c = let s =
    step_at c.args.view.now.positions c.args.position _ _ c.requires.placed c.loop-left-test.true c.loop-left.invariant.walk in
    let l = s.low in let h = s.high in (omega (arith, l), omega (arith, h, c.requires.at.1))

pub overflow_sub-here-in-loop-left : goal.overflow_sub-here-in-loop-left
overflow_sub-here-in-loop-left c = let s =
    step_at c.args.view.now.positions c.args.position _ _ c.requires.placed c.loop-left-test.true c.loop-left.invariant.walk in
    let e = ap (λ (v : Values). v.width) c.part-part.ensures.values in
    let r = s.room in omega (arith, r, e)

pub overflow_sub-others : goal.overflow_sub-others
overflow_sub-others c =
    let ps = c.args.view.now.positions in
    let f = claim_at c.args.view.now.claims in
    let t = term_of_position ps c.loop-left.here in
    let d = direction_of c.args.claim.now.dir in
    let value = c.value_in.ensures t c.part-part.ensures.values ∙ ap (value_in d t) c.part-part.ensures.claim in
    omega (
      arith,
      c.from.ensures,
      value,
      value_below ps f d c.args.position c.loop-left.left c.loop-left.here
          c.requires.placed c.loop-left-test.true c.loop-left.invariant.walk,
      c.requires.sum,
    )

pub returns-then-not-has_room : goal.returns-then-not-has_room
returns-then-not-has_room c =
    let ps = c.args.view.now.positions in
    let f = claim_at c.args.view.now.claims in
    let same = room_same c.args.claim.now.bound (direction_of c.args.claim.now.dir) (term_of_position ps c.loop-left.here) c.args.total
    (c.args.total - c.from.result) c.value_in.result (option_map claim_of c.part-part.result.claim) (f c.loop-left.here)
    (ap (λ n. c.args.total - n) c.from.ensures)
    (c.value_in.ensures (term_of_position ps c.loop-left.here) c.part-part.ensures.values) c.part-part.ensures.claim in (
      (λ (h : IsTrue false). cc),
      (λ have.
          let r = room_here ps f (direction_of c.args.claim.now.dir) c.args.claim.now.bound c.args.total c.args.position
          c.loop-left.left c.loop-left.here c.requires.placed c.loop-left-test.true c.loop-left.invariant.walk have in
          sym c.if-not-has_room.true ∙ c.has_room.ensures.1 (same.1 r)),
    )

pub loop-left-preserved : goal.loop-left-preserved
loop-left-preserved c =
    let ps = c.args.view.now.positions in
    let f = claim_at c.args.view.now.claims in
    let same = room_same c.args.claim.now.bound (direction_of c.args.claim.now.dir) (term_of_position ps c.loop-left.here) c.args.total
    (c.args.total - c.from.result) c.value_in.result (option_map claim_of c.part-part.result.claim) (f c.loop-left.here)
    (ap (λ n. c.args.total - n) c.from.ensures)
    (c.value_in.ensures (term_of_position ps c.loop-left.here) c.part-part.ensures.values) c.part-part.ensures.claim in
    let room : HasRoom c.args.claim.now.bound (c.args.total - value_in (direction_of c.args.claim.now.dir)
    (term_of_position ps c.loop-left.here) (f c.loop-left.here)) (f c.loop-left.here) =
    same.0 (c.has_room.ensures.0 c.if-not-has_room.false) in
    subst (λ w. Roomy ps f (direction_of c.args.claim.now.dir) c.args.claim.now.bound c.args.total c.args.position
    (c.loop-left.left - 1) (c.loop-left.here - w)) (sym (ap (λ (v : Values). v.width) c.part-part.ensures.values))
    (roomy_more ps f
    (direction_of c.args.claim.now.dir) c.args.claim.now.bound c.args.total c.args.position c.loop-left.left c.loop-left.here
    c.requires.placed c.loop-left-test.true c.loop-left.invariant room)
