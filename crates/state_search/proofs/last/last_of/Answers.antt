use Rattle.std.proofs.Common.{◌≡◌, ℕ, ◌+◌, ◌<◌, true, false, List, length, Vec, Global, ◌↔◌, sym, ap, subst, ◌∙◌, arith}
use Rattle.mp_system.specs.Memory.{stands_in}
use Rattle.mp_system.specs.declared.system.Task.{Task}
use Rattle.state_search.specs.States.{can_be_last, memory_before}
use Rattle.state_search.proofs.LastTasks.{with_step, without_step, may_wait_here, may_not_wait, cannot_wait, none_more, only_first, all_last, told_none}
use Rattle.state_search.proofs.last.last_of.Goals as goal
use Rattle.state_search.proofs.last.last_of.Goals.{in-Some+else-before-view+in_ok-push, in_default}

pub returns-then-before-view : goal.returns-then-before-view
returns-then-before-view c =
    let system = c.args.system.now in
    let marks = c.args.marks.now in
    let task = c.loop-i.i + 1 in
    only_first system c.args.bound marks task
    (may_wait_here system c.args.bound marks task c.in-Some.before c.in-Some.ensures.0 c.in-Some.ensures.1
    (omega (arith, c.if-before-view.true, c.requires.view.memory)))
    c.loop-i.invariant.none c.in_ok-first.first.items c.in_ok-first.ensures.items

pub loop-i-preserved : goal.loop-i-preserved
loop-i-preserved c =
    let system = c.args.system.now in
    let bound = c.args.bound in
    let marks = c.args.marks.now in
    let i = c.loop-i.i in
    let P = λ (v : ℕ). can_be_last system bound marks v ≡ true in
    elim c.match-memory_if_last.branch [
      | in-Some+else-before-view+in_ok-push w ↦ record {
        can = with_step P c.loop-i.steps.items i c.loop-i.invariant.can c.match-memory_if_last.steps.items
            (ap (λ (v : Vec ℕ Global). v.items) w.steps-is ∙ w.in_ok-push.ensures.items) w.in-Some.ensures.0;
        none = none_more system bound marks (i + 1) c.loop-i.invariant.none
            (may_not_wait system bound marks (i + 1) w.in-Some.before w.in-Some.ensures.1
            (omega (arith, w.if-before-view.false, c.requires.view.memory)));
      }
      | in_default w ↦ (
          let not_last = told_none (can_be_last system bound marks (i + 1) ≡ false)
          (λ before. (can_be_last system bound marks (i + 1) ≡ true) × (before ≡ memory_before system marks (i + 1)))
          c.memory_if_last.result c.memory_if_last.ensures w.in_default.not-Some in
          record {
            can = subst (λ (l : List ℕ). (v : ℕ) → (stands_in l v ≡ true) ↔ (P v × (v < i + 1 + 1)))
                (sym (ap (λ (v : Vec ℕ Global). v.items) w.steps-is))
                (without_step P c.loop-i.steps.items i c.loop-i.invariant.can (λ can. (let f : true ≡ false = sym can ∙ not_last in cc)));
            none = none_more system bound marks (i + 1) c.loop-i.invariant.none (cannot_wait system bound marks (i + 1) not_last);
          })
    ]

pub returns : goal.returns
returns c =
    let count : c.loop-i.i ≡ length c.args.system.now.tasks =
    omega (arith, c.loop-i-test.false, c.loop-i.auto.i-end, ap (λ (l : List Task). length l) c.tasks-i-end.ensures.value) in
    all_last c.args.system.now c.args.bound c.args.marks.now c.loop-i.i (omega (arith, count, c.requires.len)) c.loop-i.invariant.none
    c.loop-i.steps.items c.loop-i.invariant.can
