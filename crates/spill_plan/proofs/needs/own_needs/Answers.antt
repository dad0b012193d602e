use Rattle.std.proofs.Common.{◌≡◌, ◌+◌, arith, ◌∙◌}
use Rattle.spill_plan.specs.SpillPlans.{own_need}
use Rattle.spill_plan.proofs.StepNeeds.{step_task, own_need-small, pushed}
use Rattle.spill_plan.proofs.ItemSpans.{end_sum-inputs, start_sum-outputs}
use Rattle.spill_plan.proofs.needs.own_needs.Goals as goal

pub overflow_add-task : goal.overflow_add-task
overflow_add-task c =
    let k = c.loop-step.step in
    let f = step_task c.args.system.now c.args.order.now c.tasks-tasks.ensures.system c.requires.traversal c.tasks-tasks.result.now
    c.tasks-tasks.ensures.value k (record { extra = 0; share = 0; time = 0 }) c.loop-step-test.true in
    let outputs = c.requires.joining (k + 1) (omega arith) ∙ start_sum-outputs c.args.system.now c.args.order.now
    c.tasks-tasks.ensures.system c.requires.traversal k c.loop-step-test.true in
    omega (arith, f.extra, f.few_outputs, outputs)

pub overflow_sub-task-in-loop-step : goal.overflow_sub-task-in-loop-step
overflow_sub-task-in-loop-step c =
    let k = c.loop-step.step in
    let f = step_task c.args.system.now c.args.order.now c.tasks-tasks.ensures.system c.requires.traversal c.tasks-tasks.result.now
    c.tasks-tasks.ensures.value k (record { extra = 0; share = 0; time = 0 }) c.loop-step-test.true in
    let outputs = c.requires.joining (k + 1) (omega arith) ∙ start_sum-outputs c.args.system.now c.args.order.now
    c.tasks-tasks.ensures.system c.requires.traversal k c.loop-step-test.true in
    omega (arith, f.whole, outputs)

pub overflow_add-leaving : goal.overflow_add-leaving
overflow_add-leaving c =
    let k = c.loop-step.step in
    let f = step_task c.args.system.now c.args.order.now c.tasks-tasks.ensures.system c.requires.traversal c.tasks-tasks.result.now
    c.tasks-tasks.ensures.value k (record { extra = 0; share = 0; time = 0 }) c.loop-step-test.true in
    let outputs = c.requires.joining (k + 1) (omega arith) ∙ start_sum-outputs c.args.system.now c.args.order.now
    c.tasks-tasks.ensures.system c.requires.traversal k c.loop-step-test.true in
    let inputs = c.requires.leaving k (omega arith) ∙ end_sum-inputs c.args.system.now c.args.order.now c.tasks-tasks.ensures.system
    c.requires.traversal k c.loop-step-test.true in
    omega (arith, f.extra, f.few_inputs, f.few_outputs, outputs, inputs)

pub loop-step-preserved : goal.loop-step-preserved
loop-step-preserved c =
    let k = c.loop-step.step in
    let f = step_task c.args.system.now c.args.order.now c.tasks-tasks.ensures.system c.requires.traversal c.tasks-tasks.result.now
    c.tasks-tasks.ensures.value k (record { extra = 0; share = 0; time = 0 }) c.loop-step-test.true in
    let outputs = c.requires.joining (k + 1) (omega arith) ∙ start_sum-outputs c.args.system.now c.args.order.now
    c.tasks-tasks.ensures.system c.requires.traversal k c.loop-step-test.true in
    let inputs = c.requires.leaving k (omega arith) ∙ end_sum-inputs c.args.system.now c.args.order.now c.tasks-tasks.ensures.system
    c.requires.traversal k c.loop-step-test.true in
    record {
      len = omega (arith, c.loop-step.invariant.len, c.in_ok-push.ensures.len);
      needs = pushed (λ j need. need ≡ own_need c.args.system.now c.args.order.now j) c.loop-step.needs.items c.push.new.self.items _ k
          (omega (arith, c.loop-step.invariant.len, c.loop-step.needs.ok)) c.in_ok-push.ensures.items c.loop-step.invariant.needs
          (omega (arith, f.need_is, outputs, inputs));
    }

pub returns-clause-small : goal.returns-clause-small
returns-clause-small c step h =
    let needs = c.loop-step.invariant.needs step (omega arith) in
    omega (arith, needs, own_need-small c.args.system.now c.args.order.now c.tasks-tasks.ensures.system c.requires.traversal step h)
