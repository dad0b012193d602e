use Rattle.std.proofs.Common.{◌≡◌, ◌≤◌, ◌*◌, ◌^◌, take}
use Rattle.std.specs.List.{sum_by}
use Rattle.elimination.specs.Quotients.{at}
use Rattle.elimination.proofs.twins.weigh.Given as goal

abbrev pub invariant-loop-r : goal.invariant-loop-r
invariant-loop-r l = record { sum : l.total ≡ sum_by (at l.sizes) (take l.r-index l.list); small : l.total ≤ l.r-index * 2 ^ 32 }
