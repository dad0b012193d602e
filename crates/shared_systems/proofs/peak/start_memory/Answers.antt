use Rattle.std.proofs.Common.{false, ◌<◌, length, arith}
use Rattle.shared_systems.specs.SharedMemory.{is_held}
use Rattle.shared_systems.proofs.KeySums.{part-fits}
use Rattle.shared_systems.proofs.peak.start_memory.Goals as goal

pub overflow_add-memory : goal.overflow_add-memory
overflow_add-memory c =
    let inside : c.loop-i.i < length c.args.items.now = omega (arith, c.loop-i-test.true, c.len-i-end.ensures) in
    omega (
      arith,
      part-fits (is_held (λ _. false)) c.args.items.now c.loop-i.i c.loop-i.memory
          c.size-memory.result inside c.loop-i.invariant c.size-memory.ensures,
      c.requires,
    )
