use Rattle.std.proofs.Common.{◌∷◌, [], arith}
use Rattle.sp_cuts.proofs.Together.{pair_split, pair_moves, ready, sums, together_cut, together_rough}
use Rattle.sp_cuts.proofs.beside.put_beside.Goals as goal

pub merge_two-requires-clause-net : goal.merge_two-requires-clause-net
merge_two-requires-clause-net g c =
    let n = (ready c.all.ensures c.args.ropes.now (c.args.a.now ∷ c.args.b ∷ []) _ _ _ _ _ _ (c.requires.a, (c.requires.b, tt))
    (let p = c.requires.peaks in omega arith) (pair_split c.args.a.now c.args.b)).front_net in
    omega arith

pub merge_two-requires-2-clause-net : goal.merge_two-requires-2-clause-net
merge_two-requires-2-clause-net g c =
    let n = (ready c.all.ensures c.args.ropes.now (c.args.a.now ∷ c.args.b ∷ []) _ _ _ _ _ _ (c.requires.a, (c.requires.b, tt))
    (let p = c.requires.peaks in omega arith) (pair_split c.args.a.now c.args.b)).back_net in
    omega arith

pub merge_two-requires-2-clause-earlier : goal.merge_two-requires-2-clause-earlier
merge_two-requires-2-clause-earlier g c =
    (c.all.ensures.runs.stay _ _ _ c.requires.a.both.back_ropes c.in_ok-merge_two.ensures.kept).0

pub merge_two-requires-2-clause-later : goal.merge_two-requires-2-clause-later
merge_two-requires-2-clause-later g c =
    (c.all.ensures.runs.stay _ _ _ c.requires.b.both.back_ropes c.in_ok-merge_two.ensures.kept).0

pub overflow_add-a : goal.overflow_add-a
overflow_add-a g c = let t = (sums c.all.ensures c.args.ropes.now (c.args.a.now ∷ c.args.b ∷ []) (c.requires.a, (c.requires.b, tt))).start in
    let p = c.requires.peaks in
    omega arith

pub overflow_add-a-2 : goal.overflow_add-a-2
overflow_add-a-2 g c = let t = (sums c.all.ensures c.args.ropes.now (c.args.a.now ∷ c.args.b ∷ []) (c.requires.a, (c.requires.b, tt))).end in
    let p = c.requires.peaks in
    omega arith

pub overflow_add-a-3 : goal.overflow_add-a-3
overflow_add-a-3 g c = let t = (sums c.all.ensures c.args.ropes.now (c.args.a.now ∷ c.args.b ∷ []) (c.requires.a, (c.requires.b, tt))).low in
    let p = c.requires.peaks in
    omega arith

pub returns-clause-cut : goal.returns-clause-cut
returns-clause-cut g c =
    together_cut c.all.ensures c.args.ropes.now c.merge_two.new.ropes c.merge_two-2.new.ropes (c.args.a.now ∷ c.args.b ∷ []) _ _ _ _ _ _
    c.merge_two.new.earlier c.merge_two-2.new.earlier (c.requires.a, (c.requires.b, tt)) (pair_split c.args.a.now c.args.b)
    c.in_ok-merge_two.ensures.kept c.in_ok-merge_two-2.ensures.kept c.in_ok-merge_two.ensures.ropes c.in_ok-merge_two-2.ensures.ropes
    c.in_ok-merge_two.ensures.segments c.in_ok-merge_two-2.ensures.segments

pub returns-clause-rough : goal.returns-clause-rough
returns-clause-rough g c =
    together_rough c.all.ensures c.args.ropes.now c.merge_two.new.ropes c.merge_two-2.new.ropes (c.args.a.now ∷ c.args.b ∷ []) _ _ _ _ _ _
    c.merge_two.new.earlier c.merge_two-2.new.earlier (c.requires.a, (c.requires.b, tt)) (pair_split c.args.a.now c.args.b)
    c.in_ok-merge_two.ensures.kept c.in_ok-merge_two-2.ensures.kept c.in_ok-merge_two.ensures.ropes c.in_ok-merge_two-2.ensures.ropes
    c.in_ok-merge_two.ensures.segments c.in_ok-merge_two-2.ensures.segments c.par_law.ensures.meets
    c.par_law.ensures.rising c.par_law.ensures.together (let p = c.requires.peaks in omega arith)

pub returns-in_err-merge_two-clause-steps : goal.returns-in_err-merge_two-clause-steps
returns-in_err-merge_two-clause-steps g c =
    let s = c.merge_two.ensures.steps in omega (arith, pair_moves c.args.a.now c.args.b)

pub returns-in_err-merge_two-2-clause-steps : goal.returns-in_err-merge_two-2-clause-steps
returns-in_err-merge_two-2-clause-steps g c =
    let s = c.merge_two.ensures.steps in let t = c.merge_two-2.ensures.steps in omega (arith, pair_moves c.args.a.now c.args.b)

pub returns-clause-steps : goal.returns-clause-steps
returns-clause-steps g c =
    let s = c.merge_two.ensures.steps in let t = c.merge_two-2.ensures.steps in omega (arith, pair_moves c.args.a.now c.args.b)
