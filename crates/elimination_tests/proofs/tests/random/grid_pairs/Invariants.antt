use Rattle.std.proofs.Common.{◌≤◌, ◌*◌, length}
use Rattle.std.specs.List.{All}
use Rattle.patterns.specs.Pattern.{IsPairWithin}
use Rattle.elimination_tests.proofs.tests.random.grid_pairs.Given as goal

abbrev pub invariant-loop-v : goal.invariant-loop-v
invariant-loop-v l = record { within : All (IsPairWithin 144) l.pairs.items; few : length l.pairs.items ≤ 2 * l.v }
