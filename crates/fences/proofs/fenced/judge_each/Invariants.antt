use Rattle.std.proofs.Common.{ℕ, ◌+◌, ◌<◌, ◌≤◌}
use Rattle.fences.specs.JudgedFences.{FenceFits}
use Rattle.fences.proofs.fenced.judge_each.Given as goal

abbrev pub invariant-loop-i : goal.invariant-loop-i
invariant-loop-i l = (place : ℕ) → 1 ≤ place → place < l.i + 1 → FenceFits l.system l.fences place
