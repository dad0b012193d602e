use Rattle.std.proofs.Common.{take}
use Rattle.fences.specs.TaskSums.{AreSums}
use Rattle.fences.proofs.sums.sums_of.Given as goal

abbrev pub invariant-loop-i : goal.invariant-loop-i
invariant-loop-i l = AreSums l.count (take l.i l.items) l.inputs.items l.outputs.items
