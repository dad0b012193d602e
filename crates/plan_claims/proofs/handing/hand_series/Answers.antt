use Rattle.std.proofs.Common.{arith}
use Rattle.plan_claims.proofs.Tails.{own_there, series_here, series_down}
use Rattle.plan_claims.proofs.handing.hand_series.Goals as goal

pub overflow_sub-at : goal.overflow_sub-at
overflow_sub-at c = own_there c.requires.last.0 c.args.task c.requires.last.1 _ _ _ c.args.notes.now.gone.items
    c.requires.last.3 _ c.in-Some.note c.in-Some.ensures.items c.len.result (omega (arith, c.len.ensures, c.args.notes.now.gone.ok))

pub series_wants-first-requires : goal.series_wants-first-requires
series_wants-first-requires c = record {
  ready = (
    c.requires.last.0,
    c.requires.last.1,
    series_here c.requires.last.0 c.args.task c.requires.last.1 _ _ _ c.args.notes.now.gone.items c.requires.last.3 _ c.in-Some.note
        c.in-Some.ensures.items c.len.result (omega (arith, c.len.ensures, c.args.notes.now.gone.ok)) _ c.deref.ensures.value,
  );
}

pub returns : goal.returns
returns c a b before x shows =
    let ready = series_here a c.args.task b before _ _ c.args.notes.now.gone.items x _ c.in-Some.note c.in-Some.ensures.items c.len.result
    (omega (arith, c.len.ensures, c.args.notes.now.gone.ok)) _ c.deref.ensures.value in
    series_down a c.args.task b before _ _ c.args.notes.now.gone.items x _ c.in-Some.note c.in-Some.ensures.items c.len.result
    (omega (arith, c.len.ensures, c.args.notes.now.gone.ok))
    c.args.wanted _ _ _ _ _ _ c.truncate.ensures.items c.in_ok-push.ensures.items c.in_ok-push-2.ensures.items
    (c.series_wants-first.ensures a b ready shows)
