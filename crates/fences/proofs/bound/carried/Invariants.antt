use Rattle.std.proofs.Common.{◌≡◌, map, take}
use Rattle.std.specs.List.{zip}
use Rattle.fences.specs.Amounts.{with_size}
use Rattle.fences.proofs.bound.carried.Given as goal

abbrev pub invariant-loop-i : goal.invariant-loop-i
invariant-loop-i l = l.carried.items ≡ map with_size (zip (take l.i l.items) (take l.i l.amounts))
