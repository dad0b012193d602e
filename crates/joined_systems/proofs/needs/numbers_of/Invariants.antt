use Rattle.std.proofs.Common.{◌≡◌, ◌≤◌}
use Rattle.joined_systems.specs.Joins.{join_count}
use Rattle.joined_systems.proofs.Numbering.{Numbered}
use Rattle.joined_systems.proofs.needs.numbers_of.Given as goal

abbrev pub invariant-loop-i : goal.invariant-loop-i
invariant-loop-i l = record { are : Numbered l.leaders l.needs l.joins.items l.i; count_is : l.count ≡ join_count l.joins.items; low : l.count ≤ l.i }
