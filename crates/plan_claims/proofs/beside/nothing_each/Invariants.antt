use Rattle.std.proofs.Common.{◌≡◌, ◌++◌, drop}
use Rattle.plan_claims.specs.Wants.{none_each}
use Rattle.plan_claims.proofs.beside.nothing_each.Given as goal

abbrev pub invariant-loop-part : goal.invariant-loop-part
invariant-loop-part l = l.todo.items ++ none_each (drop l._part-index l.parts) ≡ l.fn.todo.items ++ none_each l.parts
