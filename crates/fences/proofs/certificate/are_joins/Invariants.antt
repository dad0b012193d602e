use Rattle.std.proofs.Common.{◌≡◌, ◌+◌, ◌≤◌, ◌++◌, drop, length, take}
use Rattle.fences.specs.Certificates.{join_places_from}
use Rattle.fences.proofs.certificate.are_joins.Given as goal

abbrev pub invariant-loop-i : goal.invariant-loop-i
invariant-loop-i l = record {
  next : l.next ≤ length l.joins;
  places : join_places_from 1 l.items ≡ take l.next l.joins ++ join_places_from (l.i + 1) (drop l.i l.items);
}
