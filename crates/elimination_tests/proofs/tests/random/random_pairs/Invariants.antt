use Rattle.std.proofs.Common.{◌≡◌, length}
use Rattle.std.specs.List.{All}
use Rattle.patterns.specs.Pattern.{IsPairWithin}
use Rattle.elimination_tests.proofs.tests.random.random_pairs.Given as goal

abbrev pub invariant-loop : goal.invariant-loop
invariant-loop l = record { within : All (IsPairWithin l.order) l.pairs.items; count : length l.pairs.items ≡ l.counter }
