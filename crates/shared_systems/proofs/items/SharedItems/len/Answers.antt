use Rattle.std.proofs.Common.{arith}
use Rattle.shared_systems.proofs.StoredItems.{long}
use Rattle.shared_systems.proofs.items.SharedItems.len.Goals as goal

pub returns : goal.returns
returns c =
    let s = c.self.inside in
    omega (arith, long s.entries.items s.readers.items c.args.self.now c.self.view_is, c.len.ensures)
