use Rattle.std.proofs.Common.{◌≡◌, ◌*◌, ◌++◌, length, take}
use Rattle.std.specs.Vec.Iter.{into_iter_items}
use Rattle.patterns.specs.Pattern.{is_joined}
use Rattle.ordering.specs.Fill.{renumbered}
use Rattle.rounds_run.specs.Holding.{AreHandedBack}
use Rattle.rounds_run.proofs.crews.make_side_by_side.Given as goal

abbrev pub invariant-loop-crew : goal.invariant-loop-crew
invariant-loop-crew g l = record {
  all : l.yielded ++ into_iter_items l.crew-iterator ≡ into_iter_items l.initial.crew-iterator;
  back : AreHandedBack (renumbered (is_joined l.pattern) l.perm) (length l.perm) (take (length l.yielded * l.size) l.jobs) l.made.items;
}
