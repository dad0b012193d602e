use Rattle.column_counts.proofs.SumLemmas.{AreSummedTo}
use Rattle.column_counts.proofs.leaves.Leaves.sum_up.Given as goal

abbrev pub invariant-loop-x : goal.invariant-loop-x
invariant-loop-x l = record {
  leaves : AreSummedTo l.x l.fn.self.leaves.items l.self.leaves.items;
  meetings : AreSummedTo l.x l.fn.self.meetings.items l.self.meetings.items;
}
