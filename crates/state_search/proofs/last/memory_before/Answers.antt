use Rattle.std.proofs.Common.{arith}
use Rattle.std.proofs.lemmas.List.{get_or_read}
use Rattle.state_search.proofs.Views.{memory_small, regained_small, before_sum, before_small}
use Rattle.state_search.proofs.last.memory_before.Goals as goal

pub overflow_add-result : goal.overflow_add-result
overflow_add-result c =
    let v = c.args.task in
    let view = c.args.view.now in
    let regained = get_or_read view.regained.items v c.index-regained.result.now (omega (arith, c.requires.view.regained_len, c.requires.task.1))
    c.index-regained.ensures 0 in
    omega (
      arith,
      regained,
      c.requires.view.memory,
      c.requires.view.regained v,
      memory_small c.args.system.now c.keeps.ensures c.args.marks.now v,
      regained_small c.args.system.now c.keeps.ensures c.args.marks.now v,
    )

pub overflow_sub-result : goal.overflow_sub-result
overflow_sub-result c =
    let v = c.args.task in
    let view = c.args.view.now in
    let amounts = c.args.amounts.now in
    let regained = get_or_read view.regained.items v c.index-regained.result.now (omega (arith, c.requires.view.regained_len, c.requires.task.1))
    c.index-regained.ensures 0 in
    let outputs = get_or_read amounts.outputs.items v c.index-outputs.result.now (omega (arith, c.requires.amounts.outputs_len, c.requires.task.1))
    c.index-outputs.ensures 0 in
    omega (
      arith,
      regained,
      outputs,
      c.requires.view.memory,
      c.requires.view.regained v,
      c.requires.amounts.outputs v,
      before_sum c.args.system.now c.keeps.ensures c.args.marks.now v c.requires.free,
    )

pub returns-clause-value : goal.returns-clause-value
returns-clause-value c =
    let v = c.args.task in
    let view = c.args.view.now in
    let amounts = c.args.amounts.now in
    let regained = get_or_read view.regained.items v c.index-regained.result.now (omega (arith, c.requires.view.regained_len, c.requires.task.1))
    c.index-regained.ensures 0 in
    let outputs = get_or_read amounts.outputs.items v c.index-outputs.result.now (omega (arith, c.requires.amounts.outputs_len, c.requires.task.1))
    c.index-outputs.ensures 0 in
    omega (
      arith,
      regained,
      outputs,
      c.requires.view.memory,
      c.requires.view.regained v,
      c.requires.amounts.outputs v,
      before_sum c.args.system.now c.keeps.ensures c.args.marks.now v c.requires.free,
    )

pub returns-clause-within : goal.returns-clause-within
returns-clause-within c =
    let v = c.args.task in
    let view = c.args.view.now in
    let amounts = c.args.amounts.now in
    let regained = get_or_read view.regained.items v c.index-regained.result.now (omega (arith, c.requires.view.regained_len, c.requires.task.1))
    c.index-regained.ensures 0 in
    let outputs = get_or_read amounts.outputs.items v c.index-outputs.result.now (omega (arith, c.requires.amounts.outputs_len, c.requires.task.1))
    c.index-outputs.ensures 0 in
    omega (
      arith,
      regained,
      outputs,
      c.requires.view.memory,
      c.requires.view.regained v,
      c.requires.amounts.outputs v,
      before_sum c.args.system.now c.keeps.ensures c.args.marks.now v c.requires.free,
      before_small c.args.system.now c.keeps.ensures c.args.marks.now v,
    )
