use Rattle.std.proofs.Common.{length, take}
use Rattle.patterns.specs.Pattern.{is_joined}
use Rattle.ordering.specs.Fill.{renumbered}
use Rattle.rounds_run.specs.Holding.{AreHandedBack}
use Rattle.rounds_run.proofs.crews.make_in_turn.Given as goal

abbrev pub invariant-loop-job : goal.invariant-loop-job
invariant-loop-job g l =
    AreHandedBack (renumbered (is_joined l.pattern) l.perm) (length l.perm) (take l.job-index l.jobs) l.made.items
