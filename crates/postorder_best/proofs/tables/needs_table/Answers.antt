use Rattle.std.proofs.Common.{refl}
use Rattle.postorder_best.proofs.TableLemmas.{need_of, mapped_more, mapped_whole, share_fits, needs_at}
use Rattle.postorder_best.proofs.tables.needs_table.Goals as goal

pub overflow_sub-node : goal.overflow_sub-node
overflow_sub-node c = share_fits c.args.nodes.now c.loop-node.node-index c.requires c.loop-node-test.true

pub loop-node-preserved : goal.loop-node-preserved
loop-node-preserved c = mapped_more need_of c.args.nodes.now c.loop-node.needs.items c.push-in-loop-node.new.self.items
    c.loop-node.node-index _ c.loop-node-test.true c.loop-node.invariant c.in_ok-push-2.ensures.items refl

pub returns-clause-values : goal.returns-clause-values
returns-clause-values c = needs_at c.args.nodes.now c.loop-node.needs.items
    (mapped_whole need_of c.args.nodes.now c.loop-node.needs.items c.loop-node.node-index c.loop-node-test.false c.loop-node.invariant)
