use Rattle.std.proofs.Common.{◌≡◌, ◌<◌, ◌∙◌, ap, arith, length, rules}
use Rattle.std.specs.Prelude.{replicate}
use Rattle.std.specs.List.{sum_by}
use Rattle.std.proofs.lemmas.List.{length-replicate}
use Rattle.shared_systems.specs.Shared.{is_read_by_alone, is_made_by}
use Rattle.shared_systems.specs.Bounds.{shared_size}
use Rattle.shared_systems.proofs.KeySums.{part-fits}
use Rattle.activation.proofs.Numbers.{number_replicate}
use Rattle.activation.proofs.Sizes.{only_reader_is_task, producer_is_task}
use Rattle.activation.proofs.sums.sums_of.Goals as goal

pub loop-i-init : goal.loop-i-init
loop-i-init c =
    let n = length c.tasks-tasks.result.now in
    let e : c.in_ok-inputs.inputs.items ≡ replicate n 0 = search rules in
    let f : c.in_ok-outputs.outputs.items ≡ replicate n 0 = search rules in
    record {
      inputs_len = ap length e ∙ length-replicate n 0 ∙ ap length c.tasks-tasks.ensures.value;
      inputs = λ t. rw e (number_replicate n t);
      outputs_len = ap length f ∙ length-replicate n 0 ∙ ap length c.tasks-tasks.ensures.value;
      outputs = λ t. rw f (number_replicate n t);
    }

pub add_size-requires : goal.add_size-requires
add_size-requires c = λ t is.
    let items = c.items-items.result.now in
    let i = c.loop-i.i in
    let lt : i < length items = omega (arith, c.loop-i-test.true, c.len-i-end.ensures) in
    let r = only_reader_is_task c.args.system.now c.items-items.ensures.system items c.items-items.ensures.value i lt t
    (rw (c.only_of.ensures, c.readers.ensures) at is) in
    let fits = part-fits (is_read_by_alone t) items i _ c.size.result lt (c.loop-i.invariant.inputs t) c.size.ensures in
    let total = c.items-items.ensures.system.total in
    let same = ap (sum_by shared_size) c.items-items.ensures.value in
    rw c.deref_mut.ensures.value
    ((r.0, omega (arith, r.1, c.loop-i.invariant.inputs_len)), omega (arith, fits, total, same))

pub add_size-requires-in-loop-i : goal.add_size-requires-in-loop-i
add_size-requires-in-loop-i c = λ t is.
    let items = c.items-items.result.now in
    let i = c.loop-i.i in
    let lt : i < length items = omega (arith, c.loop-i-test.true, c.len-i-end.ensures) in
    let r = producer_is_task c.args.system.now c.items-items.ensures.system items c.items-items.ensures.value i lt t
    (rw c.producer.ensures at is) in
    let fits = part-fits (is_made_by t) items i _ c.size-in-loop-i.result lt (c.loop-i.invariant.outputs t) c.size-in-loop-i.ensures in
    let total = c.items-items.ensures.system.total in
    let same = ap (sum_by shared_size) c.items-items.ensures.value in
    rw c.deref_mut-in-loop-i.ensures.value
    ((r.0, omega (arith, r.1, c.loop-i.invariant.outputs_len)), omega (arith, fits, total, same))
