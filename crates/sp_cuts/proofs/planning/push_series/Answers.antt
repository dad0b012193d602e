use Rattle.std.proofs.Common.{◌≡◌, ◌-◌, ◌<◌, ◌++◌, ◌∷◌, [], max, arith, ap, ◌∙◌, refl, length, take, vec_len}
use Rattle.cut_laws.specs.Cuts.{series_cut}
use Rattle.sp_cuts.specs.Parts.{cut_of}
use Rattle.sp_cuts.proofs.Stacked.{joins_fit, series_done, is_top, with_top}
use Rattle.sp_cuts.proofs.Pushed.{series_steps}
use Rattle.sp_cuts.proofs.planning.push_series.Goals as goal

pub hill_between-hill-requires : goal.hill_between-hill-requires
hill_between-hill-requires g c =
    let top = is_top c.pop.new.self.items (vec_len c.pop.new.self - 1)
    (let some = c.in-Some-last_mut.ensures.variant.0 refl in omega (arith, c.pop.new.self.ok))
    (omega (arith, c.pop.new.self.ok)) c.in-Some-last_mut.a.now c.in-Some-last_mut.ensures.value in
    record {
      joins = (joins_fit c.all.ensures c.args.ropes.now c.args.ropes.now _ _ _ _ _ _ _ _ c.args.number c.args.task
          c.requires.ready.piled c.in-Some.ensures.items top c.requires.ready.inputs c.requires.ready.outputs c.requires.ready.within).joins;
    }

pub put_behind-requires : goal.put_behind-requires
put_behind-requires g c =
    let top = is_top c.pop.new.self.items (vec_len c.pop.new.self - 1)
    (let some = c.in-Some-last_mut.ensures.variant.0 refl in omega (arith, c.pop.new.self.ok))
    (omega (arith, c.pop.new.self.ok)) c.in-Some-last_mut.a.now c.in-Some-last_mut.ensures.value in
    let j = joins_fit c.all.ensures c.args.ropes.now c.args.ropes.now _ _ _ _ _ _ _ _ c.args.number c.args.task
    c.requires.ready.piled c.in-Some.ensures.items top c.requires.ready.inputs c.requires.ready.outputs c.requires.ready.within in
    let i = j.joins.inputs in
    let o = j.joins.outputs in
    let h = j.joins.hill in
    let e = c.hill_between-hill.ensures in
    record { a = j.first; b = j.second; after = omega arith; before = omega arith; hill = omega arith }

pub returns-clause-done : goal.returns-clause-done
returns-clause-done g c st a b ok tk piled =
    let some : 0 < length c.pop.new.self.items =
    (let some = c.in-Some-last_mut.ensures.variant.0 refl in omega (arith, c.pop.new.self.ok)) in
    let last : vec_len c.pop.new.self - 1 ≡ length c.pop.new.self.items - 1 = omega (arith, c.pop.new.self.ok) in
    let top = is_top c.pop.new.self.items (vec_len c.pop.new.self - 1) some last c.in-Some-last_mut.a.now
    c.in-Some-last_mut.ensures.value in
    let e = c.hill_between-hill.ensures in
    series_done c.all.ensures _ _ st a b _ _ _ _ _ c.args.number c.args.task piled c.in-Some.ensures.items top
    c.put_behind.new.a _ ok tk c.in_ok-put_behind.ensures.kept
    (c.in_ok-put_behind.ensures.cut
    ∙ ap (λ n. series_cut (cut_of c.args.ropes.now c.in-Some-last_mut.a.now) c.args.number n (cut_of c.args.ropes.now c.in-Some.b)) e)
    c.in_ok-put_behind.ensures.rough
    (c.in_ok-put_behind.ensures.peak ∙ ap (λ n. max c.in-Some-last_mut.a.now.peak (max n c.in-Some.b.peak)) e)
    (with_top c.pop.new.self.items (vec_len c.pop.new.self - 1) some last c.put_behind.new.a)

pub returns-in_err-put_behind-clause-steps : goal.returns-in_err-put_behind-clause-steps
returns-in_err-put_behind-clause-steps g c st a b total piled moved =
    let top = is_top c.pop.new.self.items (vec_len c.pop.new.self - 1)
    (let some = c.in-Some-last_mut.ensures.variant.0 refl in omega (arith, c.pop.new.self.ok))
    (omega (arith, c.pop.new.self.ok)) c.in-Some-last_mut.a.now c.in-Some-last_mut.ensures.value in
    series_steps c.all.ensures c.args.ropes.now st a b c.args.task total c.args.stack.now.items _ _ _ _ c.args.steps.now
    c.put_behind.new.steps piled c.in-Some.ensures.items top moved c.put_behind.ensures.steps

pub returns-clause-steps : goal.returns-clause-steps
returns-clause-steps g c st a b total piled moved =
    let top = is_top c.pop.new.self.items (vec_len c.pop.new.self - 1)
    (let some = c.in-Some-last_mut.ensures.variant.0 refl in omega (arith, c.pop.new.self.ok))
    (omega (arith, c.pop.new.self.ok)) c.in-Some-last_mut.a.now c.in-Some-last_mut.ensures.value in
    series_steps c.all.ensures c.args.ropes.now st a b c.args.task total c.args.stack.now.items _ _ _ _ c.args.steps.now
    c.put_behind.new.steps piled c.in-Some.ensures.items top moved c.put_behind.ensures.steps
