use Rattle.std.proofs.Common.{◌≡◌, ◌≤◌, ◌+◌, drop}
use Rattle.segment_merge.specs.Merging.{segment_count}
use Rattle.segment_merge.proofs.Later.{Following}
use Rattle.segment_merge.proofs.merging.take_after.Given as goal

abbrev pub invariant-loop-place : goal.invariant-loop-place
invariant-loop-place g l = record {
  following : Following l.fn.ropes l.ropes l.fn.sides l.fn.into (drop l.place-index l.sides) l.into;
  steps : l.steps + segment_count (drop l.place-index l.sides) ≡ l.fn.steps + segment_count l.fn.sides;
  ticks : l.fn.steps ≤ l.steps;
}
