use Rattle.std.proofs.Common.{◌-◌, Bool, true, List, length, get_or, set, sym, ap, subst, ◌∙◌, arith}
use Rattle.state_search.specs.States.{without}
use Rattle.state_search.specs.Kept.{IsKept, IsBefore}
use Rattle.state_search.proofs.TaskMarks.{without_length, without_back}
use Rattle.state_search.proofs.LastTasks.{stands_at}
use Rattle.state_search.proofs.Keeping.{extends_both}
use Rattle.state_search.proofs.Following.{followed, all_kept}
use Rattle.state_search.proofs.search.follow.Goals as goal

pub overflow_sub-at : goal.overflow_sub-at
overflow_sub-at c =
    let v = get_or c.args.steps.now c.loop-task.task-index 0 in
    omega (arith, (c.requires.tasks v (stands_at c.args.steps.now c.loop-task.task-index c.loop-task-test.true)).0)

pub bounds-marks-at : goal.bounds-marks-at
bounds-marks-at c =
    let v = get_or c.args.steps.now c.loop-task.task-index 0 in
    let task = c.requires.tasks v (stands_at c.args.steps.now c.loop-task.task-index c.loop-task-test.true) in
    omega (arith, task.0, task.1, ap (λ (m : List Bool). length m) c.loop-task.invariant.marks)

pub bounds-marks-at-in-loop-task : goal.bounds-marks-at-in-loop-task
bounds-marks-at-in-loop-task c =
    let v = get_or c.args.steps.now c.loop-task.task-index 0 in
    let task = c.requires.tasks v (stands_at c.args.steps.now c.loop-task.task-index c.loop-task-test.true) in
    omega (arith, task.0, task.1, ap (λ (m : List Bool). length m) c.loop-task.invariant.marks, without_length c.loop-task.marks v)

pub loop-task-preserved : goal.loop-task-preserved
loop-task-preserved c =
    let i = c.loop-task.task-index in
    let v = get_or c.args.steps.now i 0 in
    let stands = stands_at c.args.steps.now i c.loop-task-test.true in
    let task = c.requires.tasks v stands in
    let marks = c.args.marks.now in
    let same = c.loop-task.invariant.marks in
    let first = c.args.search.now in
    let now = c.loop-task.search in
    let new = c.keep.new.search in
    let extends = c.in_ok-keep.ensures.extends in
    record {
      marks = ap (λ (m : List Bool). set (without m v) (v - 1) true) same ∙ without_back marks v task.2;
      looked = λ system bound was steps.
          c.in_ok-keep.ensures.looked system bound (c.loop-task.invariant.looked system bound was steps)
          (subst (λ (m : List Bool). IsBefore system bound now.states.rows (length now.states.rows) (record { next = c.args.place; task = v }) (without m v))
          (sym same)
          (followed system bound first.states now.states first.waiting.items now.waiting.items c.loop-task.invariant.extends marks
          c.args.place c.requires.inside c.requires.marks v (steps v stands)));
      extends = extends_both first.states.rows first.waiting.items now.states.rows now.waiting.items new.states.rows new.waiting.items
          c.loop-task.invariant.extends extends;
      kept = all_kept c.args.steps.now i c.loop-task-test.true now.states.rows now.waiting.items new.states.rows new.waiting.items extends marks
          c.loop-task.invariant.kept (subst (λ (m : List Bool). IsKept new.states.rows (without m v)) same c.in_ok-keep.ensures.kept);
    }
