use Rattle.std.proofs.Common.{arith}
use Rattle.sp_cuts.proofs.Together.{sums, ready, together_cut, together_rough}
use Rattle.sp_cuts.proofs.composing.parallel_part.Goals as goal

pub split-requires-clause-initial : goal.split-requires-clause-initial
split-requires-clause-initial g c = let t = (sums c.all.ensures _ _ c.requires.parts).start in let p = c.requires.peaks in omega arith

pub split-requires-clause-fin : goal.split-requires-clause-fin
split-requires-clause-fin g c = let t = (sums c.all.ensures _ _ c.requires.parts).end in let p = c.requires.peaks in omega arith

pub split-requires-clause-least : goal.split-requires-clause-least
split-requires-clause-least g c = let t = (sums c.all.ensures _ _ c.requires.parts).low in let p = c.requires.peaks in omega arith

pub merge-requires-clause-ropes : goal.merge-requires-clause-ropes
merge-requires-clause-ropes g c = (ready c.all.ensures _ _ _ _ _ _ _ _ c.requires.parts c.requires.peaks c.in_ok-apart.ensures).front_ropes

pub merge-requires-clause-net : goal.merge-requires-clause-net
merge-requires-clause-net g c = (ready c.all.ensures _ _ _ _ _ _ _ _ c.requires.parts c.requires.peaks c.in_ok-apart.ensures).front_net

pub merge-requires-2-clause-ropes : goal.merge-requires-2-clause-ropes
merge-requires-2-clause-ropes g c =
    (c.all.ensures.all_stay _ _ _
    (ready c.all.ensures _ _ _ _ _ _ _ _ c.requires.parts c.requires.peaks c.in_ok-apart.ensures).back_ropes c.in_ok-front.ensures.kept).0

pub merge-requires-2-clause-net : goal.merge-requires-2-clause-net
merge-requires-2-clause-net g c = (ready c.all.ensures _ _ _ _ _ _ _ _ c.requires.parts c.requires.peaks c.in_ok-apart.ensures).back_net

pub returns-clause-cut : goal.returns-clause-cut
returns-clause-cut g c =
    together_cut c.all.ensures _ _ _ _ _ _ _ _ _ _ c.in_ok-front.front c.in_ok-back.back c.requires.parts c.in_ok-apart.ensures
    c.in_ok-front.ensures.kept c.in_ok-back.ensures.kept c.in_ok-front.ensures.ropes c.in_ok-back.ensures.ropes
    c.in_ok-front.ensures.segments c.in_ok-back.ensures.segments

pub returns-clause-rough : goal.returns-clause-rough
returns-clause-rough g c =
    together_rough c.all.ensures _ _ _ _ _ _ _ _ _ _ c.in_ok-front.front c.in_ok-back.back c.requires.parts c.in_ok-apart.ensures
    c.in_ok-front.ensures.kept c.in_ok-back.ensures.kept c.in_ok-front.ensures.ropes c.in_ok-back.ensures.ropes
    c.in_ok-front.ensures.segments c.in_ok-back.ensures.segments c.par_law.ensures.meets
    c.par_law.ensures.rising c.par_law.ensures.together c.requires.peaks
