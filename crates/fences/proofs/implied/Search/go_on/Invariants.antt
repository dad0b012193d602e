use Rattle.std.proofs.Common.{◌≡◌}
use Rattle.fences.specs.Before.{IsSearch}
use Rattle.fences.proofs.implied.Search.go_on.Given as goal

abbrev pub invariant-loop : goal.invariant-loop
invariant-loop l = record { task : l.self.task ≡ l.fn.self.task; search : IsSearch l.system l.self }
