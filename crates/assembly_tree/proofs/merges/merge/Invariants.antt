use Rattle.assembly_tree.specs.MergeTables.{IsMerging}
use Rattle.assembly_tree.proofs.merges.merge.Given as goal

abbrev pub invariant-loop-i : goal.invariant-loop-i
invariant-loop-i l = IsMerging l.zeros l.initial.supers l.supers l.i
