use Rattle.std.proofs.Common.{arith}
use Rattle.shared_systems.proofs.StoredItems.{inside, from_at}
use Rattle.shared_systems.proofs.items.SharedItems.producer.Goals as goal

pub index-requires : goal.index-requires
index-requires c =
    let s = c.self.inside in
    omega (arith, inside s.entries.items s.readers.items c.args.self.now c.self.view_is c.args.i c.requires)

pub returns : goal.returns
returns c =
    let s = c.self.inside in
    from_at s.entries.items s.readers.items c.args.self.now c.self.view_is c.args.i
    c.requires c.index.result.now c.end_of.result c.index.ensures c.end_of.ensures
