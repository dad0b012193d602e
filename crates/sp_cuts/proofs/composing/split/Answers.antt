use Rattle.std.proofs.Common.{rules, length, ap, arith}
use Rattle.sp_cuts.proofs.Together.{splitting_starts, splitting_fit, splitting_on}
use Rattle.sp_cuts.proofs.composing.split.Goals as goal

pub loop-part-init : goal.loop-part-init
loop-part-init c = record {
  goes = (tt, tt);
  splitting = rw (c.in_ok-fronts.ensures.items, c.in_ok-backs.ensures.items)
      (splitting_starts _ _ c.into_iter-part-iterator.ensures.into_iter_gives.0);
  len = search rules;
}

pub overflow_add-start : goal.overflow_add-start
overflow_add-start c = let f =
    (splitting_fit _ _ _ _ _ _ _ _ _ _ _ c.loop-part.invariant.splitting c.in-Some.ensures.steps.0
    c.requires.initial c.requires.fin c.requires.least c.requires.peak).start_fits in
    omega arith

pub overflow_add-end : goal.overflow_add-end
overflow_add-end c = let f =
    (splitting_fit _ _ _ _ _ _ _ _ _ _ _ c.loop-part.invariant.splitting c.in-Some.ensures.steps.0
    c.requires.initial c.requires.fin c.requires.least c.requires.peak).end_fits in
    omega arith

pub overflow_add-least : goal.overflow_add-least
overflow_add-least c = let f =
    (splitting_fit _ _ _ _ _ _ _ _ _ _ _ c.loop-part.invariant.splitting c.in-Some.ensures.steps.0
    c.requires.initial c.requires.fin c.requires.least c.requires.peak).low_fits in
    omega arith

pub overflow_add-peak : goal.overflow_add-peak
overflow_add-peak c = let f =
    (splitting_fit _ _ _ _ _ _ _ _ _ _ _ c.loop-part.invariant.splitting c.in-Some.ensures.steps.0
    c.requires.initial c.requires.fin c.requires.least c.requires.peak).most_fits in
    omega arith

pub loop-part-preserved : goal.loop-part-preserved
loop-part-preserved c = record {
  goes = (tt, tt);
  splitting = rw (c.in_ok-push.ensures.items, c.in_ok-push-2.ensures.items)
      (splitting_on _ _ _ _ _ _ _ _ _ _ _ c.loop-part.invariant.splitting c.in-Some.ensures.steps.0);
  len = let was = c.loop-part.invariant.len in
      let gone = c.in-Some.ensures.steps.1 in
      let short = ap length c.in-Some.ensures.steps.0 in
      omega arith;
}
