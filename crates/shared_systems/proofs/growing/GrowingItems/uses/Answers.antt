use Rattle.std.proofs.Common.{arith}
use Rattle.shared_systems.proofs.OneByOne.{uses_now}
use Rattle.shared_systems.proofs.growing.GrowingItems.uses.Goals as goal

pub returns : goal.returns
returns c =
    let s = c.self.inside in
    omega (arith, uses_now s.entries.items s.readers.items c.self.invariant c.args.self.now c.self.view_is, c.len.ensures)
