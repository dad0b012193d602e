use Rattle.std.proofs.Common.{ℕ, ◌+◌, ◌<◌, ◌≤◌, length}
use Rattle.mp_system.specs.Judged.{ItemPasses}
use Rattle.mp_system.proofs.judged.judge_items.Given as goal

abbrev pub invariant-loop-i : goal.invariant-loop-i
invariant-loop-i l = (k : ℕ) → 1 ≤ k → k < l.i + 1 → ItemPasses (length l.tasks) l.items l.test k
