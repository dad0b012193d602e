use Rattle.std.proofs.Common.{arith, false, None}
use Rattle.std.proofs.lemmas.List.Sums.{sum_by_more_le_part}
use Rattle.mp_system.specs.declared.system.Item.{Item}
use Rattle.mp_system.specs.System.{size_if, item_size}
use Rattle.mp_system.specs.Memory.{is_present}
use Rattle.mp_system.proofs.Sums.{size_if-le}
use Rattle.mp_system.proofs.state.start_memory.Goals as goal

pub overflow_add-memory : goal.overflow_add-memory
overflow_add-memory c =
    let d : Item = record { size = 0; from = None; to = None } in
    let part = sum_by_more_le_part (size_if (is_present (λ _. false))) item_size c.args.items.now
    c.loop-item.item-index d c.loop-item-test.true (size_if-le (is_present (λ _. false))) in
    omega (arith, part, c.loop-item.invariant, c.requires)
