use Rattle.std.proofs.Common.{◌+◌, ◌-◌, ℕ, Bool}
use Rattle.column_counts.specs.Leaves.{AreReady, CanTakeColumn, AreLeavesWith, AreAtMost, growth}
use Rattle.column_counts.proofs.leaves.Leaves.take_column.Given as goal

abbrev pub invariant-loop-vertex : goal.invariant-loop-vertex
invariant-loop-vertex l = record {
  ready : AreReady l.firsts l.j l.self;
  small : AreAtMost (growth (l.j - 1) + 1 + l.vertex-index) l.self;
  leaves : (joined : ℕ → ℕ → Bool) → CanTakeColumn joined l.firsts l.row l.perm l.j l.fn.self
      → AreLeavesWith joined l.firsts l.row l.perm l.j l.vertex-index l.self;
}
