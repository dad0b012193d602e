use Rattle.std.proofs.Common.{◌≡◌, ◌≤◌, ◌+◌}
use Rattle.std.specs.Slice.Iter.{iter_mut_rest}
use Rattle.std.specs.Iterator.Adapters.{rev_source}
use Rattle.segment_merge.specs.Merging.{segment_count}
use Rattle.segment_merge.proofs.Earlier.{Taking}
use Rattle.segment_merge.proofs.merging.take_before.Given as goal

abbrev pub invariant-loop-place : goal.invariant-loop-place
invariant-loop-place g l = record {
  taking : Taking l.fn.ropes l.ropes l.fn.sides l.fn.into (iter_mut_rest (rev_source l.place-iterator)) l.into;
  steps : l.steps + segment_count (iter_mut_rest (rev_source l.place-iterator)) ≡ l.fn.steps + segment_count l.fn.sides;
  ticks : l.fn.steps ≤ l.steps;
}
