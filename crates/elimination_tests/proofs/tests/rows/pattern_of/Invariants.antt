use Rattle.std.proofs.Common.{◌≤◌, length}
use Rattle.std.specs.List.{All}
use Rattle.patterns.specs.Pattern.{IsPairWithin}
use Rattle.elimination_tests.proofs.tests.rows.pattern_of.Given as goal

abbrev pub invariant-loop-a : goal.invariant-loop-a
invariant-loop-a l = record { within : All (IsPairWithin l.order) l.within.items; few : length l.within.items ≤ l.a-index }
