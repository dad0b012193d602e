use Rattle.assembly_tree.specs.RunTables.{AreRuns}
use Rattle.assembly_tree.proofs.runs.cut.Given as goal

abbrev pub invariant-loop-i : goal.invariant-loop-i
invariant-loop-i l = AreRuns l.parents l.counts l.supers.items l.nodes.items l.columns l.i
