use Rattle.sp_cuts.proofs.Noted.{noted_in_first, noted_in_second}
use Rattle.sp_cuts.proofs.noting.note_series.Goals as goal

pub returns-in_ok-push : goal.returns-in_ok-push
returns-in_ok-push c =
    noted_in_first c.args.a.now c.args.b.now _ _ _ _ _ _ _ _ _ c.if-a-b.true c.in_ok-between.ensures.count
    c.in_ok-between.ensures.gone c.in_ok-far.ensures.count c.in_ok-far.ensures.gone c.last_up.ensures.value c.in_ok-push.ensures.items

pub returns-in_ok-push-2 : goal.returns-in_ok-push-2
returns-in_ok-push-2 c =
    noted_in_second c.args.a.now c.args.b.now _ _ _ _ _ _ _ _ _ c.if-a-b.false
    c.in_ok-between-2.ensures.count c.in_ok-between-2.ensures.gone c.in_ok-far-2.ensures.count
    c.in_ok-far-2.ensures.gone c.last_up-else-a-b.ensures.value c.in_ok-push-2.ensures.items
