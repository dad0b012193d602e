use Rattle.std.proofs.Common.{[], ◌∷◌, ap, sym, length, length-append, subst, arith}
use Rattle.sp_cuts.specs.Reaching.{IsLast}
use Rattle.sp_cuts.specs.Stairs.{both_of}
use Rattle.sp_cuts.proofs.OneStaircase.{allowed_at}
use Rattle.sp_cuts.proofs.Pushed.{standing_ready, standing_on, index_there, spent_on, spent_stopped}
use Rattle.sp_cuts.proofs.Reached.{some_here, room_here, stairs_here, made_next, total_is}
use Rattle.sp_cuts.proofs.Reached.{passes_limit}
use Rattle.sp_cuts.proofs.reaching.staircases.Goals as goal

pub push_position-requires : goal.push_position-requires
push_position-requires g c = record {
  ready = standing_ready c.args.terms.now c.loop-done.done c.at-position.result c.loop-done.ropes
      c.loop-done.stack.items c.loop-done.next c.len-done-end.ensures.terms
      c.loop-done.invariant.standing
      (let t = c.loop-done-test.true in let e = c.len-done-end.ensures.value in omega arith)
      (index_there c.args.terms.now c.loop-done.done c.at-position.result
      c.at-position.ensures);
}

-- ---- the last part of the stack

pub last_stairs-requires-clause-some : goal.last_stairs-requires-clause-some
last_stairs-requires-clause-some g c =
    let some = some_here c.all.ensures c.stands_law.ensures c.args.terms.now c.loop-done.done
    c.at-position.result c.loop-done.ropes c.loop-done.stack.items c.loop-done.next
    c.len-done-end.ensures.terms c.loop-done.invariant.standing
    (let t = c.loop-done-test.true in let e = c.len-done-end.ensures.value in omega arith)
    (index_there c.args.terms.now c.loop-done.done c.at-position.result c.at-position.ensures)
    c.push_position.new.ropes c.push_position.new.stack.items c.in_ok-next.next
    c.in_ok-next.ensures.done in
    omega (arith, some, ap length c.deref.ensures.value)

pub last_stairs-requires-clause-room : goal.last_stairs-requires-clause-room
last_stairs-requires-clause-room g c p last =
    room_here c.all.ensures c.stands_law.ensures c.args.terms.now c.loop-done.done
    c.at-position.result c.loop-done.ropes c.loop-done.stack.items c.loop-done.next
    c.len-done-end.ensures.terms c.loop-done.invariant.standing
    (let t = c.loop-done-test.true in let e = c.len-done-end.ensures.value in omega arith)
    (index_there c.args.terms.now c.loop-done.done c.at-position.result c.at-position.ensures)
    c.push_position.new.ropes c.push_position.new.stack.items c.in_ok-next.next
    c.in_ok-next.ensures.done p
    (subst (λ ps. IsLast ps p) c.deref.ensures.value last)

-- ---- the steps that were counted

pub returns-in_err-next-clause-steps : goal.returns-in_err-next-clause-steps
returns-in_err-next-clause-steps g c =
    spent_stopped c.all.ensures c.args.terms.now c.loop-done.done c.at-position.result
    c.loop-done.ropes c.loop-done.stack.items c.loop-done.next c.len-done-end.ensures.terms
    c.loop-done.invariant.standing (let t = c.loop-done-test.true in let e
    = c.len-done-end.ensures.value in omega arith)
    (index_there c.args.terms.now c.loop-done.done c.at-position.result c.at-position.ensures)
    c.args.steps.now c.loop-done.steps c.push_position.new.steps c.loop-done.invariant.spent
    c.push_position.ensures.steps

pub returns-in_err-stairs-clause-steps : goal.returns-in_err-stairs-clause-steps
returns-in_err-stairs-clause-steps g c =
    spent_stopped c.all.ensures c.args.terms.now c.loop-done.done c.at-position.result
    c.loop-done.ropes c.loop-done.stack.items c.loop-done.next c.len-done-end.ensures.terms
    c.loop-done.invariant.standing (let t = c.loop-done-test.true in let e
    = c.len-done-end.ensures.value in omega arith)
    (index_there c.args.terms.now c.loop-done.done c.at-position.result c.at-position.ensures)
    c.args.steps.now c.loop-done.steps c.push_position.new.steps c.loop-done.invariant.spent
    c.push_position.ensures.steps

pub returns-then-total-gt-MOST_STEPS-clause-steps :
    goal.returns-then-total-gt-MOST_STEPS-clause-steps
returns-then-total-gt-MOST_STEPS-clause-steps g c =
    spent_stopped c.all.ensures c.args.terms.now c.loop-done.done c.at-position.result
    c.loop-done.ropes c.loop-done.stack.items c.loop-done.next c.len-done-end.ensures.terms
    c.loop-done.invariant.standing (let t = c.loop-done-test.true in let e
    = c.len-done-end.ensures.value in omega arith)
    (index_there c.args.terms.now c.loop-done.done c.at-position.result c.at-position.ensures)
    c.args.steps.now c.loop-done.steps c.push_position.new.steps c.loop-done.invariant.spent
    c.push_position.ensures.steps

pub returns-in_err-push-clause-steps : goal.returns-in_err-push-clause-steps
returns-in_err-push-clause-steps g c =
    spent_stopped c.all.ensures c.args.terms.now c.loop-done.done c.at-position.result
    c.loop-done.ropes c.loop-done.stack.items c.loop-done.next c.len-done-end.ensures.terms
    c.loop-done.invariant.standing (let t = c.loop-done-test.true in let e
    = c.len-done-end.ensures.value in omega arith)
    (index_there c.args.terms.now c.loop-done.done c.at-position.result c.at-position.ensures)
    c.args.steps.now c.loop-done.steps c.push_position.new.steps c.loop-done.invariant.spent
    c.push_position.ensures.steps

-- ---- the staircases of the position

pub returns-then-total-gt-MOST_STEPS-clause-limit :
    goal.returns-then-total-gt-MOST_STEPS-clause-limit
returns-then-total-gt-MOST_STEPS-clause-limit g c limit =
    let stairs = (stairs_here c.all.ensures c.stands_law.ensures c.args.terms.now c.loop-done.done
    c.at-position.result c.loop-done.ropes c.loop-done.stack.items c.loop-done.next
    c.len-done-end.ensures.terms c.loop-done.invariant.standing
    (let t = c.loop-done-test.true in let e = c.len-done-end.ensures.value in omega arith)
    (index_there c.args.terms.now c.loop-done.done c.at-position.result c.at-position.ensures)
    c.push_position.new.ropes c.push_position.new.stack.items c.in_ok-next.next
    c.in_ok-next.ensures.done
    (allowed_at c.one_staircase.ensures.some c.args.terms.now
    (λ k one le. c.position_law.ensures.allowed c.args.terms.now k c.len-done-end.ensures.terms one
    le) c.loop-done.done (let t = c.loop-done-test.true in let e = c.len-done-end.ensures.value
    in omega arith))
    (both_of c.in_ok-stairs.stairs) (λ q last. c.in_ok-stairs.ensures q
    (subst (λ ps. IsLast ps q) (sym c.deref.ensures.value) last))) in
    let all = c.one_staircase.ensures.some_of_all c.args.terms.now c.len-done-end.ensures.terms in
    passes_limit c.args.terms.now c.loop-done.done c.loop-done.found.items c.in_ok-stairs.stairs
    c.loop-done.invariant.many
    c.loop-done.invariant.made stairs c.one_staircase.ensures.one all.0 all.1
    (let t = c.loop-done-test.true in let e = c.len-done-end.ensures.value in omega arith)
    c.loop-done.total c.step_count-total.result
    c.loop-done.invariant.counted c.step_count-total.ensures c.if-total-gt-MOST_STEPS.true

pub loop-done-preserved : goal.loop-done-preserved
loop-done-preserved g c =
    let stairs = (stairs_here c.all.ensures c.stands_law.ensures c.args.terms.now c.loop-done.done
    c.at-position.result c.loop-done.ropes c.loop-done.stack.items c.loop-done.next
    c.len-done-end.ensures.terms c.loop-done.invariant.standing
    (let t = c.loop-done-test.true in let e = c.len-done-end.ensures.value in omega arith)
    (index_there c.args.terms.now c.loop-done.done c.at-position.result c.at-position.ensures)
    c.push_position.new.ropes c.push_position.new.stack.items c.in_ok-next.next
    c.in_ok-next.ensures.done
    (allowed_at c.one_staircase.ensures.some c.args.terms.now
    (λ k one le. c.position_law.ensures.allowed c.args.terms.now k c.len-done-end.ensures.terms one
    le) c.loop-done.done (let t = c.loop-done-test.true in let e = c.len-done-end.ensures.value
    in omega arith))
    (both_of c.in_ok-stairs.stairs) (λ q last. c.in_ok-stairs.ensures q
    (subst (λ ps. IsLast ps q) (sym c.deref.ensures.value) last))) in
    record {
      standing = standing_on c.args.terms.now c.loop-done.done c.at-position.result
          c.loop-done.ropes c.loop-done.stack.items c.loop-done.next c.len-done-end.ensures.terms
          c.loop-done.invariant.standing (let t = c.loop-done-test.true in let e
          = c.len-done-end.ensures.value in omega arith)
          (index_there c.args.terms.now c.loop-done.done c.at-position.result c.at-position.ensures)
          c.push_position.new.ropes c.push_position.new.stack.items c.in_ok-next.next
          c.in_ok-next.ensures.done;
      spent = spent_on c.all.ensures c.args.terms.now c.loop-done.done c.at-position.result
          c.loop-done.ropes c.loop-done.stack.items c.loop-done.next c.len-done-end.ensures.terms
          c.loop-done.invariant.standing (let t = c.loop-done-test.true in let e
          = c.len-done-end.ensures.value in omega arith)
          (index_there c.args.terms.now c.loop-done.done c.at-position.result c.at-position.ensures)
          c.args.steps.now c.loop-done.steps c.push_position.new.steps
          c.loop-done.invariant.spent c.push_position.ensures.steps;
      made = made_next c.args.terms.now c.loop-done.done c.loop-done.found.items
          c.in_ok-stairs.stairs c.loop-done.invariant.many
          c.loop-done.invariant.made stairs c.push.new.self.items c.in_ok-push.ensures.items;
      many = omega (
        arith,
        c.loop-done.invariant.many,
        ap length c.in_ok-push.ensures.items,
        length-append c.loop-done.found.items (c.in_ok-stairs.stairs ∷ []),
      );
      counted = total_is c.args.terms.now c.loop-done.done c.loop-done.found.items
          c.in_ok-stairs.stairs c.loop-done.invariant.many
          c.loop-done.invariant.made stairs c.push.new.self.items c.loop-done.total
          c.step_count-total.result c.in_ok-push.ensures.items
          c.loop-done.invariant.counted c.step_count-total.ensures;
      few = c.if-total-gt-MOST_STEPS.false;
    }
