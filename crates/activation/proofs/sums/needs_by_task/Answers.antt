use Rattle.std.proofs.Common.{◌≡◌, ℕ, ◌+◌, ◌<◌, ◌∙◌, ap, arith, length, sym}
use Rattle.std.proofs.lemmas.List.{get_or_read}
use Rattle.shared_systems.specs.Shared.{own_inputs_of, shared_outputs_of, shared_need_of}
use Rattle.activation.proofs.Numbers.{number_next}
use Rattle.activation.proofs.Sizes.{task_facts, of_task}
use Rattle.activation.proofs.sums.needs_by_task.Goals as goal

pub loop-i-init : goal.loop-i-init
loop-i-init c = record {
  needs_len = c.in_ok-sums.ensures.outputs_len;
  frees_len = c.in_ok-sums.ensures.inputs_len;
  needs = λ k w. absurd (omega arith);
  frees = λ k w. absurd (omega arith);
  outputs = λ k w. sym (number_next c.in_ok-sums.sums.outputs.items k) ∙ c.in_ok-sums.ensures.outputs (k + 1);
  inputs = λ k w. sym (number_next c.in_ok-sums.sums.inputs.items k) ∙ c.in_ok-sums.ensures.inputs (k + 1);
}

pub overflow_add-tasks : goal.overflow_add-tasks
overflow_add-tasks c =
    let i = c.loop-i.i in
    let f = task_facts c.args.system.now c.tasks-tasks.ensures.system c.tasks-tasks.result.now c.tasks-tasks.ensures.value i
    (record { extra = 0; share = 0; time = 0 }) c.loop-i-test.true in
    let w : i < length c.loop-i.needs.items = omega (arith, c.loop-i.invariant.needs_len, ap length c.tasks-tasks.ensures.value) in
    let read : c.index.result.now ≡ shared_outputs_of c.args.system.now (i + 1) =
    get_or_read c.loop-i.needs.items i c.index.result.now w c.index.ensures 0 ∙ c.loop-i.invariant.outputs i (omega arith) in
    omega (arith, read, f.extra, f.few_outputs)

pub overflow_sub-tasks : goal.overflow_sub-tasks
overflow_sub-tasks c =
    let i = c.loop-i.i in
    let f = task_facts c.args.system.now c.tasks-tasks.ensures.system c.tasks-tasks.result.now c.tasks-tasks.ensures.value i
    (record { extra = 0; share = 0; time = 0 }) c.loop-i-test.true in
    let w : i < length c.loop-i.needs.items = omega (arith, c.loop-i.invariant.needs_len, ap length c.tasks-tasks.ensures.value) in
    let read : c.index.result.now ≡ shared_outputs_of c.args.system.now (i + 1) =
    get_or_read c.loop-i.needs.items i c.index.result.now w c.index.ensures 0 ∙ c.loop-i.invariant.outputs i (omega arith) in
    omega (arith, read, f.whole)

pub overflow_add-tasks-in-loop-i : goal.overflow_add-tasks-in-loop-i
overflow_add-tasks-in-loop-i c =
    let i = c.loop-i.i in
    let f = task_facts c.args.system.now c.tasks-tasks.ensures.system c.tasks-tasks.result.now c.tasks-tasks.ensures.value i
    (record { extra = 0; share = 0; time = 0 }) c.loop-i-test.true in
    let w : i < length c.loop-i.frees.items = omega (arith, c.loop-i.invariant.frees_len, ap length c.tasks-tasks.ensures.value) in
    let read : c.index-in-loop-i.result.now ≡ own_inputs_of c.args.system.now (i + 1) =
    get_or_read c.loop-i.frees.items i c.index-in-loop-i.result.now w c.index-in-loop-i.ensures 0
    ∙ c.loop-i.invariant.inputs i (omega arith) in
    omega (arith, read, f.extra, f.few_inputs)

pub overflow_sub-tasks-in-loop-i : goal.overflow_sub-tasks-in-loop-i
overflow_sub-tasks-in-loop-i c =
    let i = c.loop-i.i in
    let f = task_facts c.args.system.now c.tasks-tasks.ensures.system c.tasks-tasks.result.now c.tasks-tasks.ensures.value i
    (record { extra = 0; share = 0; time = 0 }) c.loop-i-test.true in
    let w : i < length c.loop-i.frees.items = omega (arith, c.loop-i.invariant.frees_len, ap length c.tasks-tasks.ensures.value) in
    let read : c.index-in-loop-i.result.now ≡ own_inputs_of c.args.system.now (i + 1) =
    get_or_read c.loop-i.frees.items i c.index-in-loop-i.result.now w c.index-in-loop-i.ensures 0
    ∙ c.loop-i.invariant.inputs i (omega arith) in
    omega (arith, read, f.inputs)

pub returns-clause-needs : goal.returns-clause-needs
returns-clause-needs c = λ t is.
    of_task (λ (x u : ℕ). x ≡ shared_need_of c.args.system.now u) c.loop-i.needs.items (length c.args.system.now.tasks)
    (λ k w. c.loop-i.invariant.needs k (omega (arith, ap length c.tasks-tasks.ensures.value))) t is.0 is.1

pub returns-clause-frees : goal.returns-clause-frees
returns-clause-frees c = λ t is.
    of_task (λ (x u : ℕ). x + shared_outputs_of c.args.system.now u ≡ shared_need_of c.args.system.now u + own_inputs_of c.args.system.now u)
    c.loop-i.frees.items (length c.args.system.now.tasks)
    (λ k w. c.loop-i.invariant.frees k (omega (arith, ap length c.tasks-tasks.ensures.value))) t is.0 is.1
