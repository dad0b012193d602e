use Rattle.std.proofs.Common.{All, take}
use Rattle.fences.specs.Before.{IsImplied, IsSearch}
use Rattle.fences.proofs.implied.are_implied.Given as goal

abbrev pub invariant-loop-i : goal.invariant-loop-i
invariant-loop-i l = record {
  implied : All (IsImplied l.system) (take l.i l.fences);
  search : IsSearch l.system l.search;
}
