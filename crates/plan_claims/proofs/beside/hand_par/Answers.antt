use Rattle.std.proofs.Common.{arith}
use Rattle.plan_claims.proofs.Tails.{many_there, counted_fits, gone_there, places_here, par_down}
use Rattle.plan_claims.proofs.beside.hand_par.Goals as goal

pub overflow_sub-parts_at : goal.overflow_sub-parts_at
overflow_sub-parts_at c = many_there c.below.ensures c.args.many _ _ _ _ c.args.notes.now.gone.items c.requires.last.2 c.len.result
    (omega (arith, c.len.ensures, c.args.notes.now.parts.ok))

pub count_of_all-requires : goal.count_of_all-requires
count_of_all-requires c =
    let f = counted_fits c.below.ensures c.args.many _ _ _ _ c.args.notes.now.gone.items c.requires.last.2 c.len.result
    (omega (arith, c.len.ensures, c.args.notes.now.parts.ok)) _ c.deref.ensures.value in
    omega (arith, c.args.notes.now.gone.ok, c.args.notes.now.gone.small)

pub overflow_sub-gone_at : goal.overflow_sub-gone_at
overflow_sub-gone_at c =
    gone_there c.below.ensures c.args.many _ _ _ _ c.args.notes.now.gone.items c.requires.last.2 c.len.result
    (omega (arith, c.len.ensures, c.args.notes.now.parts.ok)) _ c.deref.ensures.value
    c.len-2.result (omega (arith, c.len-2.ensures, c.args.notes.now.gone.ok)) c.count_of_all.result c.count_of_all.ensures

pub par_wants-requires : goal.par_wants-requires
par_wants-requires c = record {
  places = places_here c.below.ensures c.args.many _ _ _ _ c.args.notes.now.gone.items c.requires.last.2 c.len.result
      (omega (arith, c.len.ensures, c.args.notes.now.parts.ok)) _ c.deref.ensures.value
      c.len-2.result (omega (arith, c.len-2.ensures, c.args.notes.now.gone.ok)) c.count_of_all.result
      c.count_of_all.ensures _ c.deref-3.ensures.value _ c.deref-2.ensures.value;
}

pub returns : goal.returns
returns c ts before x shows =
    par_down c.below.ensures c.args.many ts before _ _ c.args.notes.now.gone.items x c.len.result
    (omega (arith, c.len.ensures, c.args.notes.now.parts.ok)) _ c.deref.ensures.value
    c.len-2.result (omega (arith, c.len-2.ensures, c.args.notes.now.gone.ok))
    c.count_of_all.result c.count_of_all.ensures _ c.deref-3.ensures.value
    c.args.wanted _ _ _ _ _ c.deref-2.ensures.value c.truncate.ensures.items
    c.truncate-2.ensures.items shows c.in_ok-par_wants.ensures.none c.in_ok-par_wants.ensures.some
