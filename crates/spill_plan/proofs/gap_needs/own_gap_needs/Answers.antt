use Rattle.std.proofs.Common.{◌≡◌, ◌<◌, length, get_or, arith, ◌∙◌}
use Rattle.std.proofs.lemmas.List.{get_or_read}
use Rattle.shared_systems.specs.Shared.{shared_outputs_of}
use Rattle.spill_plan.specs.Gaps.{own_gap_need}
use Rattle.spill_plan.proofs.StepNeeds.{pushed}
use Rattle.spill_plan.proofs.GapNeeds.{shared_step_task, own_gap_need-small}
use Rattle.spill_plan.proofs.GapSpans.{end_sum-reads}
use Rattle.spill_plan.proofs.gap_needs.own_gap_needs.Goals as goal

pub overflow_add-task : goal.overflow_add-task
overflow_add-task c =
    let k = c.loop-step.step in
    let system = c.args.system.now in
    let v = get_or c.args.order.now k 0 in
    let f = shared_step_task system c.args.order.now c.tasks-tasks.ensures.system c.requires.traversal c.tasks-tasks.result.now
    c.tasks-tasks.ensures.value k (record { extra = 0; share = 0; time = 0 }) c.loop-step-test.true in
    let inside : v < length c.in_ok-outputs.outputs.items = omega (arith, f.number.1, c.in_ok-outputs.ensures.len) in
    let outputs : c.index.result.now ≡ shared_outputs_of system v =
    get_or_read c.in_ok-outputs.outputs.items v c.index.result.now inside c.index.ensures 0 ∙ c.in_ok-outputs.ensures.sums v in
    omega (arith, f.extra, f.few_outputs, outputs)

pub overflow_sub-task-in-loop-step : goal.overflow_sub-task-in-loop-step
overflow_sub-task-in-loop-step c =
    let k = c.loop-step.step in
    let system = c.args.system.now in
    let v = get_or c.args.order.now k 0 in
    let f = shared_step_task system c.args.order.now c.tasks-tasks.ensures.system c.requires.traversal c.tasks-tasks.result.now
    c.tasks-tasks.ensures.value k (record { extra = 0; share = 0; time = 0 }) c.loop-step-test.true in
    let inside : v < length c.in_ok-outputs.outputs.items = omega (arith, f.number.1, c.in_ok-outputs.ensures.len) in
    let outputs : c.index.result.now ≡ shared_outputs_of system v =
    get_or_read c.in_ok-outputs.outputs.items v c.index.result.now inside c.index.ensures 0 ∙ c.in_ok-outputs.ensures.sums v in
    omega (arith, f.whole, outputs)

pub overflow_add-leaving : goal.overflow_add-leaving
overflow_add-leaving c =
    let k = c.loop-step.step in
    let system = c.args.system.now in
    let v = get_or c.args.order.now k 0 in
    let f = shared_step_task system c.args.order.now c.tasks-tasks.ensures.system c.requires.traversal c.tasks-tasks.result.now
    c.tasks-tasks.ensures.value k (record { extra = 0; share = 0; time = 0 }) c.loop-step-test.true in
    let inside : v < length c.in_ok-outputs.outputs.items = omega (arith, f.number.1, c.in_ok-outputs.ensures.len) in
    let outputs : c.index.result.now ≡ shared_outputs_of system v =
    get_or_read c.in_ok-outputs.outputs.items v c.index.result.now inside c.index.ensures 0 ∙ c.in_ok-outputs.ensures.sums v in
    let inputs = c.requires.leaving k (omega arith) ∙ end_sum-reads system c.args.order.now c.tasks-tasks.ensures.system
    c.requires.traversal k c.loop-step-test.true in
    omega (arith, f.extra, f.few_inputs, f.few_outputs, outputs, inputs)

pub loop-step-preserved : goal.loop-step-preserved
loop-step-preserved c =
    let k = c.loop-step.step in
    let system = c.args.system.now in
    let v = get_or c.args.order.now k 0 in
    let f = shared_step_task system c.args.order.now c.tasks-tasks.ensures.system c.requires.traversal c.tasks-tasks.result.now
    c.tasks-tasks.ensures.value k (record { extra = 0; share = 0; time = 0 }) c.loop-step-test.true in
    let inside : v < length c.in_ok-outputs.outputs.items = omega (arith, f.number.1, c.in_ok-outputs.ensures.len) in
    let outputs : c.index.result.now ≡ shared_outputs_of system v =
    get_or_read c.in_ok-outputs.outputs.items v c.index.result.now inside c.index.ensures 0 ∙ c.in_ok-outputs.ensures.sums v in
    let inputs = c.requires.leaving k (omega arith) ∙ end_sum-reads system c.args.order.now c.tasks-tasks.ensures.system
    c.requires.traversal k c.loop-step-test.true in
    record {
      len = omega (arith, c.loop-step.invariant.len, c.in_ok-push.ensures.len);
      needs = pushed (λ j need. need ≡ own_gap_need system c.args.order.now j) c.loop-step.needs.items c.push.new.self.items _ k
          (omega (arith, c.loop-step.invariant.len, c.loop-step.needs.ok)) c.in_ok-push.ensures.items c.loop-step.invariant.needs
          (omega (arith, f.need_is, outputs, inputs));
    }

pub returns-clause-small : goal.returns-clause-small
returns-clause-small c step h =
    let needs = c.loop-step.invariant.needs step (omega arith) in
    omega (arith, needs, own_gap_need-small c.args.system.now c.args.order.now c.tasks-tasks.ensures.system c.requires.traversal step h)
