use Rattle.std.proofs.Common.{length}
use Rattle.patterns.specs.Pattern.{is_joined}
use Rattle.ordering.specs.Fill.{renumbered}
use Rattle.rounds_run.specs.Holding.{IsHeld, in_rounds}
use Rattle.rounds_run.proofs.running.run_rounds.Given as goal

abbrev pub invariant-loop-list : goal.invariant-loop-list
invariant-loop-list g l =
    IsHeld (record { joined = renumbered (is_joined l.pattern) l.perm; order = length l.perm; supers = l.supers })
    (in_rounds l.rounds l.list-index) (in_rounds l.rounds l.list-index) l.held
