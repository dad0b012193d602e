use Rattle.term_orders.proofs.TermTables.{AreStartsUpTo}
use Rattle.term_orders.proofs.tables.starts_of.Given as goal

abbrev pub invariant-loop-i : goal.invariant-loop-i
invariant-loop-i l = AreStartsUpTo l.values.items l.starts.items l.i
