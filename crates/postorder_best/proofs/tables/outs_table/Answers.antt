use Rattle.postorder_best.proofs.TableLemmas.{out_of, mapped_whole, outs_at}
use Rattle.postorder_best.proofs.tables.outs_table.Goals as goal

pub returns-clause-values : goal.returns-clause-values
returns-clause-values c = outs_at c.args.nodes.now c.loop-node.outs.items
    (mapped_whole out_of c.args.nodes.now c.loop-node.outs.items c.loop-node.node-index c.loop-node-test.false c.loop-node.invariant)
