use Rattle.std.proofs.Common.{arith}
use Rattle.std.proofs.lemmas.Grind.{common_steps}
use Rattle.plan_claims.proofs.Walking.{some_place, place_there, here_last, here_limit, here_left, here_right, todo_there}
use Rattle.plan_claims.proofs.claiming.claim_at_position.Goals as goal

pub put_claim-requires : goal.put_claim-requires
put_claim-requires c =
    let (p, here) = some_place c.args.terms.now c.args.position c.requires.position.0 c.requires.position.1 in
    here_limit c.below.ensures c.args.terms.now c.args.position c.keeps.ensures
    c.requires.position.0 c.requires.position.1 p here _ c.args.todo.now.items _ c.in-Some.wanted
    c.in-Some.ensures.items c.requires.left

pub hand_down-requires : goal.hand_down-requires
hand_down-requires c =
    let x = here_last c.below.ensures c.args.terms.now c.args.position c.keeps.ensures c.requires.position.0 c.requires.position.1
    c.at.result (place_there c.args.terms.now c.args.position c.at.result c.at.ensures) _ c.args.todo.now.items _ c.in-Some.wanted
    c.in-Some.ensures.items c.requires.left in
    record { last = (_, x.before, x.last) }

pub returns-clause-left : goal.returns-clause-left
returns-clause-left c =
    let x = here_last c.below.ensures c.args.terms.now c.args.position c.keeps.ensures c.requires.position.0 c.requires.position.1
    c.at.result (place_there c.args.terms.now c.args.position c.at.result c.at.ensures) _ c.args.todo.now.items _ c.in-Some.wanted
    c.in-Some.ensures.items c.requires.left in
    here_left c.below.ensures c.args.terms.now c.args.position c.keeps.ensures c.requires.position.0 c.requires.position.1 c.at.result
    (place_there c.args.terms.now c.args.position c.at.result c.at.ensures) _ c.args.todo.now.items _ c.in-Some.wanted
    c.in-Some.ensures.items c.requires.left
    x.before x.noted _ _ (c.in_ok-hand_down.ensures _ x.before x.last x.shows)

pub returns-clause-right : goal.returns-clause-right
returns-clause-right c root r =
    let x = here_last c.below.ensures c.args.terms.now c.args.position c.keeps.ensures c.requires.position.0 c.requires.position.1
    c.at.result (place_there c.args.terms.now c.args.position c.at.result c.at.ensures) _ c.args.todo.now.items _ c.in-Some.wanted
    c.in-Some.ensures.items c.requires.left in
    here_right c.below.ensures c.args.terms.now c.args.position c.keeps.ensures c.requires.position.0 c.requires.position.1 c.at.result
    (place_there c.args.terms.now c.args.position c.at.result c.at.ensures) _ c.args.todo.now.items _ c.in-Some.wanted
    c.in-Some.ensures.items c.requires.left
    x.before x.noted _ _ (c.in_ok-hand_down.ensures _ x.before x.last x.shows) root _ _ c.in_ok-put_claim.ensures r

pub unreachable-requires : goal.unreachable-requires
unreachable-requires c =
    let some = todo_there c.args.terms.now c.args.position c.keeps.ensures
    c.requires.position.0 c.requires.position.1 _ c.args.todo.now.items c.requires.left in
    first_of (omega (arith, some, c.in_default.ensures.cases.0, c.args.todo.now.ok), grind (arith, common_steps))
