use Rattle.std.proofs.Common.{◌≡◌}
use Rattle.fences.specs.Before.{IsSearch}
use Rattle.fences.proofs.implied.Search.look.Given as goal

abbrev pub invariant-loop-k : goal.invariant-loop-k
invariant-loop-k l = record { task : l.self.task ≡ l.fn.self.task; search : IsSearch l.system l.self }
