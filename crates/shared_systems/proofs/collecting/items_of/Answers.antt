use Rattle.std.proofs.Common.{◌≡◌, ◌<◌, Bool, true, false, length, arith, sym, ap, ◌∙◌}
use Rattle.shared_systems.specs.Shared.{shared_item_at}
use Rattle.shared_systems.specs.Collected.{are_several, is_shared}
use Rattle.shared_systems.proofs.Systems.{item_next, count_next}
use Rattle.shared_systems.proofs.collecting.items_of.Goals as goal
use Rattle.shared_systems.proofs.collecting.items_of.Goals.{then-are_several, else-are_several}

pub loop-i-preserved : goal.loop-i-preserved
loop-i-preserved c =
    let l = c.loop-i in
    let inside : l.i < length c.args.all.now = omega (arith, c.loop-i-test.true, c.len-i-end.ensures) in
    let several = c.are_several.ensures ∙ ap are_several c.readers.ensures in
    let count = λ (b : Bool) (e : b ≡ is_shared (shared_item_at c.args.all.now l.i)).
    count_next c.args.first l.i l.next c.args.all.now b inside e l.invariant.next_is in
    record {
      items_are = item_next c.args.first l.i l.next c.args.all.now l.items.items c.push_item.new.items.items
          inside l.invariant.items_are l.invariant.next_is c.in_ok-push_item.ensures;
      next_is = elim c.if-are_several.branch [
        | then-are_several w ↦ omega (arith, w.next-is, count true (sym w.if-are_several.true ∙ several))
        | else-are_several w ↦ omega (arith, w.next-is, count false (sym w.if-are_several.false ∙ several))
      ];
    }
