use Rattle.std.proofs.Common.{arith, sym, ◌∙◌}
use Rattle.trees.proofs.ItemLemmas.{items_from-more}
use Rattle.trees.proofs.system.items_of.Goals as goal

pub loop-i-preserved : goal.loop-i-preserved
loop-i-preserved c = c.in_ok-push.ensures.items
    ∙ rw (c.consumer_of.ensures, c.loop-i.invariant) (sym (items_from-more c.args.nodes.now c.loop-i.i _ (omega arith)))
