use Rattle.std.proofs.Common.{◌∙◌, sym, ap, arith}
use Rattle.std.specs.List.{sum_by, list_all}
use Rattle.std.proofs.lemmas.List.{take_all}
use Rattle.std.proofs.lemmas.List.Sums.{sum_by_more_le}
use Rattle.mp_system.specs.Replay.{is_marked}
use Rattle.mp_system.proofs.Sums.{items_total}
use Rattle.mp_system.proofs.InputPlaces.{size_at, is_produced_at, is_ready-row, inputs_of-row, row-le}
use Rattle.mp_system.proofs.inputs.sum_if_ready.Goals as goal

pub overflow_add-sum : goal.overflow_add-sum
overflow_add-sum c =
    let system = c.args.system.now in
    let items = c.items-items.result.now in
    let row = c.row-i-items.result.now in
    let row_is = c.row-i-items.ensures ∙ c.requires.inputs.rows_are c.args.task c.requires.task.1 in
    let whole = row-le system items c.items-items.ensures.value c.args.task c.requires.task.0 row row_is in
    omega (
      arith,
      whole,
      sum_by_more_le (size_at items) row c.loop-i.i-index 0 c.loop-i-test.true,
      c.loop-i.invariant.summed,
      items_total system items c.items-items.ensures.value c.items-items.ensures.system,
    )

pub returns-clause-ready : goal.returns-clause-ready
returns-clause-ready c =
    let row = c.row-i-items.result.now in
    let row_is = c.row-i-items.ensures ∙ c.requires.inputs.rows_are c.args.task c.requires.task.1 in
    let done = is_marked c.args.ran.now in
    is_ready-row c.args.system.now c.items-items.result.now c.items-items.ensures.value c.args.task c.requires.task.0 row row_is done
    ∙ ap (list_all (is_produced_at done c.items-items.result.now)) (sym (take_all c.loop-i.i-index row c.loop-i-test.false))
    ∙ c.loop-i.invariant.produced

pub returns-clause-sum : goal.returns-clause-sum
returns-clause-sum c =
    let row = c.row-i-items.result.now in
    let row_is = c.row-i-items.ensures ∙ c.requires.inputs.rows_are c.args.task c.requires.task.1 in
    c.loop-i.invariant.summed ∙ ap (sum_by (size_at c.items-items.result.now)) (take_all c.loop-i.i-index row c.loop-i-test.false)
    ∙ sym (inputs_of-row c.args.system.now c.items-items.result.now c.items-items.ensures.value c.args.task c.requires.task.0 row row_is)
