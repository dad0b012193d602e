use Rattle.std.proofs.Common.{arith}
use Rattle.shared_systems.proofs.OneByOne.{items_long}
use Rattle.shared_systems.proofs.growing.GrowingItems.len.Goals as goal

pub returns : goal.returns
returns c =
    let s = c.self.inside in
    omega (arith, items_long s.entries.items s.readers.items c.self.invariant c.args.self.now c.self.view_is, c.len.ensures)
