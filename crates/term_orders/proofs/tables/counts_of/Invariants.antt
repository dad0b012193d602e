use Rattle.std.proofs.Common.{◌≡◌, take}
use Rattle.term_orders.specs.Steps.{tasks_among}
use Rattle.term_orders.proofs.TermTables.{AreCountsUpTo}
use Rattle.term_orders.proofs.tables.counts_of.Given as goal

abbrev pub invariant-loop-position : goal.invariant-loop-position
invariant-loop-position l = record {
  up : AreCountsUpTo l.positions l.counts.items l.position-index;
  count : l.count ≡ tasks_among (take l.position-index l.positions);
}
