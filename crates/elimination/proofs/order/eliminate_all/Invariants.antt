use Rattle.std.proofs.Common.{◌+◌, length}
use Rattle.elimination.specs.Tables.{tables, AllHaveLength}
use Rattle.elimination.specs.Progress.{IsUnderWay}
use Rattle.elimination.proofs.order.eliminate_all.Given as goal

abbrev pub invariant-loop-place : goal.invariant-loop-place
invariant-loop-place l = record {
  lengths : AllHaveLength (length l.pattern + 1) l.search;
  stands : IsUnderWay l.pattern l.vertices.items (tables l.search) l.place;
}
