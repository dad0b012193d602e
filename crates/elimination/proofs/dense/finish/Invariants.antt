use Rattle.std.proofs.Common.{ℕ, Bool}
use Rattle.elimination.specs.Dense.{IsDenseRest}
use Rattle.elimination.proofs.dense.finish.Given as goal

abbrev pub invariant-loop-v : goal.invariant-loop-v
invariant-loop-v l = (joined : ℕ → ℕ → Bool) → IsDenseRest joined l.order l.alive l.fn.vertices.items 1
    → IsDenseRest joined l.order l.alive l.vertices.items l.v
