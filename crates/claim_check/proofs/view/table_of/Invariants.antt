use Rattle.claim_check.proofs.Table.{Filled}
use Rattle.claim_check.proofs.view.table_of.Given as goal

abbrev pub invariant-loop-done : goal.invariant-loop-done
invariant-loop-done l = Filled l.claims l.table.items l.done l.passed
