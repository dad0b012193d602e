use Rattle.hill_valley.specs.Ropes.{IsRope}
use Rattle.hill_valley_tests.proofs.tests.ropes.flipped_each_time.Given as goal

abbrev pub invariant-loop-task : goal.invariant-loop-task
invariant-loop-task l = IsRope l.ropes l.rope
