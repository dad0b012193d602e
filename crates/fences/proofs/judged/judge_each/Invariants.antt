use Rattle.std.proofs.Common.{ℕ, ◌+◌, ◌<◌, ◌≤◌}
use Rattle.fences.specs.Judged.{AmountFits}
use Rattle.fences.proofs.judged.judge_each.Given as goal

abbrev pub invariant-loop-i : goal.invariant-loop-i
invariant-loop-i l = (place : ℕ) → 1 ≤ place → place < l.i + 1 → AmountFits l.system l.amounts place
