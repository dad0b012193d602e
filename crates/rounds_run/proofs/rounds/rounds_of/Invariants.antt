use Rattle.std.proofs.Common.{take}
use Rattle.rounds_run.specs.Rounds.{AreStarts}
use Rattle.rounds_run.proofs.rounds.rounds_of.Given as goal

abbrev pub invariant-loop-event : goal.invariant-loop-event
invariant-loop-event l = AreStarts (take l.event-index l.events) l.rounds.items
