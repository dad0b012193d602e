use Rattle.std.proofs.lemmas.Result.{on_ok_weaker}
use Rattle.plan_claims.proofs.Handed.{hold_handed}
use Rattle.plan_claims.proofs.Tails.{task_last, parts_last, down_for}
use Rattle.plan_claims.proofs.handing.hand_down.Goals as goal

pub hand_series-requires : goal.hand_series-requires
hand_series-requires c =
    let x = task_last c.args.position _ _ _ _ _ _ c.in-Task.is c.requires.last.2 in
    record { last = (x.a, x.b, c.requires.last.1, x.last) }

pub hand_par-requires : goal.hand_par-requires
hand_par-requires c =
    let x = parts_last c.args.position _ _ _ _ c.in-Par.is c.requires.last.2 in
    record { last = (x.ts, c.requires.last.1, x.last) }

pub returns-in-Hold : goal.returns-in-Hold
returns-in-Hold c t before x shows = hold_handed c.args.position _ t before _ c.args.wanted c.args.todo.now.items c.in-Hold.is x shows

pub returns-in-Task : goal.returns-in-Task
returns-in-Task c = on_ok_weaker c.hand_series.result
    (λ f t before x shows.
    let y = task_last c.args.position _ _ _ t before _ c.in-Task.is x in
    down_for t _ before _ c.args.wanted c.args.todo.now.items _ y.is (f y.a y.b before y.last) shows)
    c.hand_series.ensures

pub returns-in-Par : goal.returns-in-Par
returns-in-Par c = on_ok_weaker c.hand_par.result
    (λ f t before x shows.
    let y = parts_last c.args.position _ t before _ c.in-Par.is x in
    down_for t _ before _ c.args.wanted c.args.todo.now.items _ y.is (f y.ts before y.last) shows)
    c.hand_par.ensures
