use Rattle.std.proofs.Common.{◌-◌, arith}
use Rattle.std.proofs.lemmas.List.{get_or_read}
use Rattle.state_search.proofs.TaskNeeds.{need_small}
use Rattle.state_search.proofs.last.memory_if_last.Goals as goal

pub overflow_add-before : goal.overflow_add-before
overflow_add-before c =
    let v = c.args.task in
    let need = get_or_read c.args.amounts.now.needs.items (v - 1) c.index-need.result.now
    (omega (arith, c.requires.amounts.needs_len, c.requires.task.0, c.requires.task.1)) c.index-need.ensures 0 in
    omega (
      arith,
      c.memory_before-before.ensures.within,
      need,
      c.requires.amounts.needs v c.requires.task,
      need_small c.args.system.now c.keeps.ensures v c.requires.task,
    )
