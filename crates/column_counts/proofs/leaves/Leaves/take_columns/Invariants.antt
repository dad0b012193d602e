use Rattle.std.proofs.Common.{◌-◌}
use Rattle.patterns.specs.Pattern.{is_joined}
use Rattle.ordering.specs.Fill.{renumbered}
use Rattle.column_counts.specs.Leaves.{AreReady, AreLeavesBefore, AreAtMost, growth}
use Rattle.column_counts.proofs.leaves.Leaves.take_columns.Given as goal

abbrev pub invariant-loop-j : goal.invariant-loop-j
invariant-loop-j l = record {
  ready : AreReady l.firsts l.j l.self;
  small : AreAtMost (growth (l.j - 1)) l.self;
  leaves : AreLeavesBefore (renumbered (is_joined l.pattern) l.perm) l.firsts l.perm l.j l.self;
}
