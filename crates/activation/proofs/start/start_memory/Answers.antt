use Rattle.std.proofs.Common.{◌<◌, length, arith, false, ap}
use Rattle.std.specs.List.{sum_by}
use Rattle.shared_systems.specs.Bounds.{shared_size}
use Rattle.shared_systems.specs.SharedMemory.{is_held}
use Rattle.shared_systems.proofs.KeySums.{part-fits}
use Rattle.activation.proofs.start.start_memory.Goals as goal

pub overflow_add-memory : goal.overflow_add-memory
overflow_add-memory c =
    let items = c.items-items.result.now in
    let lt : c.loop-i.i < length items = omega (arith, c.loop-i-test.true, c.len-i-end.ensures) in
    omega (
      arith,
      part-fits (is_held (λ _. false)) items c.loop-i.i c.loop-i.memory c.size-memory.result lt c.loop-i.invariant c.size-memory.ensures,
      c.items-items.ensures.system.total,
      ap (sum_by shared_size) c.items-items.ensures.value,
    )
