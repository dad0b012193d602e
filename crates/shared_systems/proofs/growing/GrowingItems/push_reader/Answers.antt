use Rattle.shared_systems.proofs.OneByOne.{with_reader_is}
use Rattle.shared_systems.proofs.growing.GrowingItems.push_reader.Goals as goal

pub returns-clause-ok : goal.returns-clause-ok
returns-clause-ok c =
    let s = c.self.inside in
    with_reader_is s.entries.items s.readers.items c.self.invariant c.args.self.now c.self.view_is c.args.task _ c.in_ok-push.ensures.items
