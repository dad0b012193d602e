use Rattle.std.proofs.Common.{Some}
use Rattle.fencing.specs.Rooms.{Suits}
use Rattle.fencing.proofs.rooms.fewest.Given as goal

abbrev pub invariant-loop-step : goal.invariant-loop-step
invariant-loop-step l = Suits l.system l.bound (Some l.count) l.best
