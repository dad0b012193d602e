use Rattle.std.proofs.Common.{ℕ, ◌+◌, ◌<◌, ◌≤◌}
use Rattle.fences.specs.Certificates.{IsForTask}
use Rattle.fences.proofs.certificate.first_waiting_join.Given as goal

abbrev pub invariant-loop-i : goal.invariant-loop-i
invariant-loop-i l = (place : ℕ) → 1 ≤ place → place < l.i + 1 → IsForTask l.system l.fences place
