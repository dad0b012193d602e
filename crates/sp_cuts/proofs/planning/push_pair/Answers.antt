use Rattle.std.proofs.Common.{◌≡◌, ◌-◌, ◌<◌, ◌∷◌, [], arith, refl, length, vec_len}
use Rattle.sp_cuts.proofs.Stacked.{two_taken, par_done, all_rough, all_peaks, is_top, with_top}
use Rattle.sp_cuts.proofs.Pushed.{pair_steps}
use Rattle.sp_cuts.proofs.planning.push_pair.Goals as goal

pub put_beside-requires : goal.put_beside-requires
put_beside-requires g c =
    let top = is_top c.pop.new.self.items (vec_len c.pop.new.self - 1)
    (let some = c.in-Some-last_mut.ensures.variant.0 refl in omega (arith, c.pop.new.self.ok))
    (omega (arith, c.pop.new.self.ok)) c.in-Some-last_mut.a.now c.in-Some-last_mut.ensures.value in
    let t = (two_taken c.args.ropes.now _ _ _ c.args.stack.now.items _ _ _ _ c.requires.ready.gathered c.requires.ready.piled
    c.in-Some.ensures.items top).all in
    let r = all_rough _ _ _ _ t in
    let w = c.requires.ready.within in
    let p = all_peaks _ _ _ _ t in
    record { a = r.0; b = r.1.0; peaks = omega arith }

pub returns-clause-done : goal.returns-clause-done
returns-clause-done g c st ts rest gathered piled =
    let some : 0 < length c.pop.new.self.items =
    (let some = c.in-Some-last_mut.ensures.variant.0 refl in omega (arith, c.pop.new.self.ok)) in
    let last : vec_len c.pop.new.self - 1 ≡ length c.pop.new.self.items - 1 = omega (arith, c.pop.new.self.ok) in
    let top = is_top c.pop.new.self.items (vec_len c.pop.new.self - 1) some last c.in-Some-last_mut.a.now
    c.in-Some-last_mut.ensures.value in
    par_done c.all.ensures _ _ ts rest _ _ c.put_beside.new.a _
    (two_taken c.args.ropes.now _ _ _ c.args.stack.now.items _ _ _ _ gathered piled c.in-Some.ensures.items top)
    c.in_ok-put_beside.ensures.kept c.in_ok-put_beside.ensures.cut c.in_ok-put_beside.ensures.rough
    (let p = c.in_ok-put_beside.ensures.peak in omega arith)
    (with_top c.pop.new.self.items (vec_len c.pop.new.self - 1) some last c.put_beside.new.a)

pub returns-in_err-put_beside-clause-steps : goal.returns-in_err-put_beside-clause-steps
returns-in_err-put_beside-clause-steps g c st ts rest total gathered piled moved =
    let top = is_top c.pop.new.self.items (vec_len c.pop.new.self - 1)
    (let some = c.in-Some-last_mut.ensures.variant.0 refl in omega (arith, c.pop.new.self.ok))
    (omega (arith, c.pop.new.self.ok)) c.in-Some-last_mut.a.now c.in-Some-last_mut.ensures.value in
    pair_steps c.all.ensures c.args.ropes.now st ts rest total c.args.stack.now.items _ _ _ _ c.args.steps.now c.put_beside.new.steps
    gathered piled moved c.in-Some.ensures.items top c.put_beside.ensures.steps

pub returns-clause-steps : goal.returns-clause-steps
returns-clause-steps g c st ts rest total gathered piled moved =
    let top = is_top c.pop.new.self.items (vec_len c.pop.new.self - 1)
    (let some = c.in-Some-last_mut.ensures.variant.0 refl in omega (arith, c.pop.new.self.ok))
    (omega (arith, c.pop.new.self.ok)) c.in-Some-last_mut.a.now c.in-Some-last_mut.ensures.value in
    pair_steps c.all.ensures c.args.ropes.now st ts rest total c.args.stack.now.items _ _ _ _ c.args.steps.now c.put_beside.new.steps
    gathered piled moved c.in-Some.ensures.items top c.put_beside.ensures.steps
