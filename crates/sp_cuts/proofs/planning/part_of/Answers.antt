use Rattle.std.proofs.Common.{◌<◌, length, arith, subst, sym}
use Rattle.sp_cuts.specs.Notes.{noted_in}
use Rattle.sp_cuts.specs.Noting.{NotesPosition}
use Rattle.sp_cuts.specs.Stacks.{PositionReady}
use Rattle.sp_cuts.proofs.Noted.{noted_on}
use Rattle.sp_cuts.proofs.Pushed.{standing_ready, standing_on, index_there, spent_on, spent_here, spent_stopped}
use Rattle.sp_cuts.proofs.planning.part_of.Goals as goal

pub note_position-requires : goal.note_position-requires
note_position-requires g c = record {
  ready = (
    c.loop-done.ropes,
    c.loop-done.next,
    subst (λ ps. PositionReady c.loop-done.ropes ps c.at-position.result c.loop-done.next) (sym c.deref.ensures.value)
        (standing_ready c.args.terms.now c.loop-done.done c.at-position.result c.loop-done.ropes
        c.loop-done.stack.items c.loop-done.next c.len-done-end.ensures.terms c.loop-done.invariant.standing
        (let t = c.loop-done-test.true in let e = c.len-done-end.ensures.value in omega arith)
        (index_there c.args.terms.now c.loop-done.done c.at-position.result c.at-position.ensures)),
  );
}

pub returns-in_err-note_position-clause-steps : goal.returns-in_err-note_position-clause-steps
returns-in_err-note_position-clause-steps g c =
    let lt : c.loop-done.done < length c.args.terms.now =
    (let t = c.loop-done-test.true in let e = c.len-done-end.ensures.value in omega arith) in
    let here = index_there c.args.terms.now c.loop-done.done c.at-position.result c.at-position.ensures in
    spent_here c.all.ensures c.args.terms.now c.loop-done.done c.at-position.result c.args.steps.now
    c.loop-done.steps c.len-done-end.ensures.terms c.loop-done.invariant.spent lt here

pub push_position-requires : goal.push_position-requires
push_position-requires g c = record {
  ready = standing_ready c.args.terms.now c.loop-done.done c.at-position.result c.loop-done.ropes
      c.loop-done.stack.items c.loop-done.next c.len-done-end.ensures.terms c.loop-done.invariant.standing
      (let t = c.loop-done-test.true in let e = c.len-done-end.ensures.value in omega arith)
      (index_there c.args.terms.now c.loop-done.done c.at-position.result c.at-position.ensures);
}

pub loop-done-preserved : goal.loop-done-preserved
loop-done-preserved g c =
    let lt : c.loop-done.done < length c.args.terms.now =
    (let t = c.loop-done-test.true in let e = c.len-done-end.ensures.value in omega arith) in
    let here = index_there c.args.terms.now c.loop-done.done c.at-position.result c.at-position.ensures in
    record {
      kept = c.all.ensures.runs.on _ _ _ c.loop-done.invariant.kept c.in_ok-next.ensures.kept;
      standing = standing_on c.args.terms.now c.loop-done.done c.at-position.result c.loop-done.ropes
          c.loop-done.stack.items c.loop-done.next c.len-done-end.ensures.terms c.loop-done.invariant.standing lt here
          c.push_position.new.ropes c.push_position.new.stack.items c.in_ok-next.next c.in_ok-next.ensures.done;
      notes = noted_on c.args.terms.now c.loop-done.done c.at-position.result c.loop-done.ropes
          c.loop-done.stack.items c.loop-done.next _ _ c.len-done-end.ensures.terms c.loop-done.invariant.standing lt here
          c.loop-done.invariant.notes
          (subst (λ ps. NotesPosition ps c.at-position.result (noted_in c.loop-done.notes) (noted_in c.note_position.new.notes))
          c.deref.ensures.value c.in_ok-note_position.ensures);
      spent = spent_on c.all.ensures c.args.terms.now c.loop-done.done c.at-position.result c.loop-done.ropes
          c.loop-done.stack.items c.loop-done.next c.len-done-end.ensures.terms c.loop-done.invariant.standing lt here
          c.args.steps.now c.loop-done.steps c.push_position.new.steps c.loop-done.invariant.spent c.push_position.ensures.steps;
    }

pub returns-in_err-next-clause-steps : goal.returns-in_err-next-clause-steps
returns-in_err-next-clause-steps g c =
    let lt : c.loop-done.done < length c.args.terms.now =
    (let t = c.loop-done-test.true in let e = c.len-done-end.ensures.value in omega arith) in
    let here = index_there c.args.terms.now c.loop-done.done c.at-position.result c.at-position.ensures in
    spent_stopped c.all.ensures c.args.terms.now c.loop-done.done c.at-position.result c.loop-done.ropes
    c.loop-done.stack.items c.loop-done.next c.len-done-end.ensures.terms c.loop-done.invariant.standing lt here
    c.args.steps.now c.loop-done.steps c.push_position.new.steps c.loop-done.invariant.spent c.push_position.ensures.steps
