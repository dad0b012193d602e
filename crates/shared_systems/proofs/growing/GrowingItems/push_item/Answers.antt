use Rattle.shared_systems.proofs.OneByOne.{later_kept, with_item_is}
use Rattle.shared_systems.proofs.growing.GrowingItems.push_item.Goals as goal

pub invariant_of-self-2 : goal.invariant_of-self-2
invariant_of-self-2 c =
    let s = c.self.inside in
    later_kept s.entries.items s.readers.items c.self.invariant c.args.self.now c.self.view_is c.args.size c.args.from
    c.uses-end.result _ c.in_ok-push.ensures.items c.uses-end.ensures

pub returns-clause-ok : goal.returns-clause-ok
returns-clause-ok c =
    let s = c.self.inside in
    with_item_is s.entries.items s.readers.items c.self.invariant c.args.self.now c.self.view_is c.args.size c.args.from
    c.uses-end.result _ c.in_ok-push.ensures.items c.uses-end.ensures
