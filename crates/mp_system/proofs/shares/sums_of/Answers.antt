use Rattle.std.proofs.Common.{◌∙◌, sym, arith, length}
use Rattle.mp_system.specs.declared.judged.ItemTest.TheVariants as item_tests
use Rattle.mp_system.proofs.GivenSums.{consumer, producer, inputs-are, one_fits, outputs-are, part-small, whole}
use Rattle.mp_system.proofs.Within.{ends_fit, no_item}
use Rattle.mp_system.proofs.shares.sums_of.Goals as goal

pub add-requires-clause-within : goal.add-requires-clause-within
add-requires-clause-within c =
    let ends = ends_fit (length c.args.tasks.now) c.args.items.now
    (c.requires.plain.items_pass item_tests.Ends) c.loop-item.item-index no_item c.loop-item-test.true in
    rw c.deref_mut.ensures.value (omega (arith, ends.1, c.loop-item.invariant.inputs_len))

pub add-requires-clause-fits : goal.add-requires-clause-fits
add-requires-clause-fits c =
    let items = c.args.items.now in
    let i = c.loop-item.item-index in
    let ends = ends_fit (length c.args.tasks.now) items (c.requires.plain.items_pass item_tests.Ends) i no_item c.loop-item-test.true in
    rw c.deref_mut.ensures.value
    (λ some. let fits = one_fits consumer (length c.args.tasks.now) items c.loop-item.inputs.items
    i no_item c.loop-item.invariant.inputs c.loop-item-test.true some ends.1 in
    omega (arith, fits, c.requires.total))

pub add-requires-in-loop-item-clause-within : goal.add-requires-in-loop-item-clause-within
add-requires-in-loop-item-clause-within c =
    let ends = ends_fit (length c.args.tasks.now) c.args.items.now
    (c.requires.plain.items_pass item_tests.Ends) c.loop-item.item-index no_item c.loop-item-test.true in
    rw c.deref_mut-in-loop-item.ensures.value (omega (arith, ends.0, c.loop-item.invariant.outputs_len))

pub add-requires-in-loop-item-clause-fits : goal.add-requires-in-loop-item-clause-fits
add-requires-in-loop-item-clause-fits c =
    let items = c.args.items.now in
    let i = c.loop-item.item-index in
    let ends = ends_fit (length c.args.tasks.now) items (c.requires.plain.items_pass item_tests.Ends) i no_item c.loop-item-test.true in
    rw c.deref_mut-in-loop-item.ensures.value
    (λ some. let fits = one_fits producer (length c.args.tasks.now) items c.loop-item.outputs.items
    i no_item c.loop-item.invariant.outputs c.loop-item-test.true some ends.0 in
    omega (arith, fits, c.requires.total))

pub returns-clause-inputs : goal.returns-clause-inputs
returns-clause-inputs c = λ v place.
    whole consumer (length c.args.tasks.now) c.args.items.now c.loop-item.inputs.items c.loop-item.item-index c.loop-item.invariant.inputs
    (omega (arith, c.loop-item-test.false)) v place
    ∙ sym (inputs-are c.args.tasks.now c.args.items.now v place.0)

pub returns-clause-outputs : goal.returns-clause-outputs
returns-clause-outputs c = λ v place.
    whole producer (length c.args.tasks.now) c.args.items.now c.loop-item.outputs.items
    c.loop-item.item-index c.loop-item.invariant.outputs (omega (arith, c.loop-item-test.false)) v place
    ∙ sym (outputs-are c.args.tasks.now c.args.items.now v place.0)

pub returns-clause-small : goal.returns-clause-small
returns-clause-small c = λ v place.
    let is = whole producer (length c.args.tasks.now) c.args.items.now c.loop-item.outputs.items
    c.loop-item.item-index c.loop-item.invariant.outputs (omega (arith, c.loop-item-test.false)) v place in
    omega (arith, is, part-small producer v c.args.items.now, c.requires.total)
