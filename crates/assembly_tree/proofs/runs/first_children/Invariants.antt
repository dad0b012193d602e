use Rattle.std.proofs.Common.{◌-◌}
use Rattle.assembly_tree.specs.RunTables.{AreFirstChildren}
use Rattle.assembly_tree.proofs.runs.first_children.Given as goal

abbrev pub invariant-loop-i : goal.invariant-loop-i
invariant-loop-i l = AreFirstChildren l.parents l.children.items (l.n - l.i)
