use Rattle.std.proofs.Common.{◌-◌, arith, drop, refl}
use Rattle.sp_cuts.proofs.Stacked.{many_fit, par_taken, par_done, all_rough, all_peaks}
use Rattle.sp_cuts.proofs.Pushed.{par_steps}
use Rattle.sp_cuts.proofs.planning.push_parts.Goals as goal

pub overflow_sub-at : goal.overflow_sub-at
overflow_sub-at g c = let n =
    many_fit c.args.ropes.now _ _ _ c.args.stack.now.items c.args.many c.requires.ready.gathered c.requires.ready.piled in
    omega (arith, c.len.ensures, c.args.stack.now.ok)

pub parallel_part-requires-clause-parts : goal.parallel_part-requires-clause-parts
parallel_part-requires-clause-parts g c =
    let n = many_fit c.args.ropes.now _ _ _ c.args.stack.now.items c.args.many c.requires.ready.gathered c.requires.ready.piled in
    all_rough _ _ _ _
    (par_taken c.args.ropes.now _ _ _ c.args.stack.now.items _ _
    (c.len.result - c.args.many) c.args.many c.requires.ready.gathered c.requires.ready.piled
    (omega (arith, c.len.ensures, c.args.stack.now.ok)) c.in_ok-parts.ensures.items c.in_ok-parts.ensures.tail).all

pub parallel_part-requires-clause-peaks : goal.parallel_part-requires-clause-peaks
parallel_part-requires-clause-peaks g c =
    let n = many_fit c.args.ropes.now _ _ _ c.args.stack.now.items c.args.many c.requires.ready.gathered c.requires.ready.piled in
    let w = c.requires.ready.within in
    let p = all_peaks _ _ _ _
    (par_taken c.args.ropes.now _ _ _ c.args.stack.now.items _ _
    (c.len.result - c.args.many) c.args.many c.requires.ready.gathered c.requires.ready.piled
    (omega (arith, c.len.ensures, c.args.stack.now.ok)) c.in_ok-parts.ensures.items c.in_ok-parts.ensures.tail).all in
    omega arith

pub returns-clause-done : goal.returns-clause-done
returns-clause-done g c st ts rest gathered piled =
    let n = many_fit c.args.ropes.now _ _ _ c.args.stack.now.items c.args.many gathered piled in
    par_done c.all.ensures _ _ ts rest _ _ c.in_ok-part.part _
    (par_taken c.args.ropes.now _ _ _ c.args.stack.now.items _ _ (c.len.result - c.args.many) c.args.many gathered piled
    (omega (arith, c.len.ensures, c.args.stack.now.ok)) c.in_ok-parts.ensures.items c.in_ok-parts.ensures.tail)
    c.in_ok-part.ensures.kept c.in_ok-part.ensures.cut c.in_ok-part.ensures.rough c.in_ok-part.ensures.peak c.in_ok-push.ensures.items

pub returns-in_err-parts-clause-steps : goal.returns-in_err-parts-clause-steps
returns-in_err-parts-clause-steps g c st ts rest total gathered piled moved =
    let n = many_fit c.args.ropes.now _ _ _ c.args.stack.now.items c.args.many gathered piled in
    par_steps c.all.ensures c.args.ropes.now st ts rest total c.args.stack.now.items
    (drop (c.len.result - c.args.many) c.args.stack.now.items) (c.len.result - c.args.many) c.args.many c.args.steps.now
    c.args.steps.now gathered piled moved (omega (arith, c.len.ensures, c.args.stack.now.ok)) refl (omega arith)

pub returns-in_err-part-clause-steps : goal.returns-in_err-part-clause-steps
returns-in_err-part-clause-steps g c st ts rest total gathered piled moved =
    let n = many_fit c.args.ropes.now _ _ _ c.args.stack.now.items c.args.many gathered piled in
    par_steps c.all.ensures c.args.ropes.now st ts rest total c.args.stack.now.items c.in_ok-parts.parts.items
    (c.len.result - c.args.many) c.args.many c.args.steps.now c.parallel_part.new.steps gathered piled moved
    (omega (arith, c.len.ensures, c.args.stack.now.ok)) c.in_ok-parts.ensures.tail c.parallel_part.ensures.steps

pub returns-in_err-push-clause-steps : goal.returns-in_err-push-clause-steps
returns-in_err-push-clause-steps g c st ts rest total gathered piled moved =
    let n = many_fit c.args.ropes.now _ _ _ c.args.stack.now.items c.args.many gathered piled in
    par_steps c.all.ensures c.args.ropes.now st ts rest total c.args.stack.now.items c.in_ok-parts.parts.items
    (c.len.result - c.args.many) c.args.many c.args.steps.now c.parallel_part.new.steps gathered piled moved
    (omega (arith, c.len.ensures, c.args.stack.now.ok)) c.in_ok-parts.ensures.tail c.parallel_part.ensures.steps

pub returns-clause-steps : goal.returns-clause-steps
returns-clause-steps g c st ts rest total gathered piled moved =
    let n = many_fit c.args.ropes.now _ _ _ c.args.stack.now.items c.args.many gathered piled in
    par_steps c.all.ensures c.args.ropes.now st ts rest total c.args.stack.now.items c.in_ok-parts.parts.items
    (c.len.result - c.args.many) c.args.many c.args.steps.now c.parallel_part.new.steps gathered piled moved
    (omega (arith, c.len.ensures, c.args.stack.now.ok)) c.in_ok-parts.ensures.tail c.parallel_part.ensures.steps
