use Rattle.std.proofs.Common.{◌≡◌, ◌≢◌, ◌-◌, below_more, get_or, length-set, arith, subst, ◌∙◌}
use Rattle.std.proofs.lemmas.List.{get_or-set_same, get_or-set_other}
use Rattle.spill_plan.specs.Steps.{step_of}
use Rattle.spill_plan.proofs.OrderSteps.{task_step, task_at_step, one_step}
use Rattle.spill_plan.proofs.steps.steps_by_task.Goals as goal

pub loop-step-preserved : goal.loop-step-preserved
loop-step-preserved c =
    let k = c.loop-step.step in
    let order = c.args.order.now in
    let steps = c.loop-step.steps.items in
    let each = c.requires.each in
    let task = task_at_step c.args.count order each k c.loop-step-test.true in
    record {
      len = length-set steps (get_or order k 0 - 1) k ∙ c.loop-step.invariant.len;
      each = below_more _ k
          (λ j h.
          let before = task_at_step c.args.count order each j (omega arith) in
          let other : get_or order j 0 - 1 ≢ get_or order k 0 - 1 = λ e.
          let same = one_step c.args.count order each j k (omega arith) c.loop-step-test.true
          (omega (arith, before.0, task.0)) in
          omega (arith, same) in
          get_or-set_other steps (get_or order k 0 - 1) (get_or order j 0 - 1) k 0 other ∙ c.loop-step.invariant.each j h)
          (get_or-set_same steps (get_or order k 0 - 1) k 0 (omega (arith, task.0, task.1, c.loop-step.invariant.len)));
    }

pub returns : goal.returns
returns c =
    let order = c.args.order.now in
    record {
      few = c.requires.few;
      len = c.loop-step.invariant.len;
      each = λ task is.
          let at = task_step c.args.count order c.requires.each task is in
          subst (λ v. get_or c.loop-step.steps.items (v - 1) 0 ≡ step_of order task) at.1
          (c.loop-step.invariant.each (step_of order task) (omega (arith, at.0)));
    }
