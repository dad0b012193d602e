use Rattle.std.proofs.Common.{arith}
use Rattle.term_orders.proofs.TermTables.{counts_are}
use Rattle.term_orders.proofs.tables.counts_of.Goals as goal

pub returns-clause-counts : goal.returns-clause-counts
returns-clause-counts c =
    counts_are c.args.positions.now c.loop-position.counts.items c.loop-position.position-index (omega arith) c.loop-position.invariant.up
