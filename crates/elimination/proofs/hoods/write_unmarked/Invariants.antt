use Rattle.std.proofs.Common.{◌+◌, ◌≤◌, take}
use Rattle.elimination.specs.Hoods.{Visits}
use Rattle.elimination.proofs.hoods.write_unmarked.Given as goal

abbrev pub invariant-loop-b : goal.invariant-loop-b
invariant-loop-b l = record {
  room : l.count ≤ l.from + l.b-index;
  visits : Visits (take l.b-index l.list) (take l.from l.fn.near) (take l.count l.near) l.fn.seen l.seen;
}
