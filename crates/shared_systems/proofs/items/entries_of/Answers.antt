use Rattle.std.proofs.Common.{refl}
use Rattle.shared_systems.proofs.StoredItems.{entries_next, end_next}
use Rattle.shared_systems.proofs.items.entries_of.Goals as goal

pub loop-item-preserved : goal.loop-item-preserved
loop-item-preserved c =
    let l = c.loop-item in
    let at = l.invariant in
    record {
      entries_are = entries_next c.args.items.now l.item-index c.loop-item-test.true l.entries.items
          c.push.new.self.items l.end _ at.entries_are at.end_is refl c.in_ok-push.ensures.items;
      end_is = end_next c.args.items.now l.item-index c.loop-item-test.true
          l.entries.items c.push.new.self.items l.end _ at.entries_are at.end_is refl;
    }
