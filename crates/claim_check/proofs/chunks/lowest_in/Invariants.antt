use Rattle.std.proofs.Common.{ℕ, ◌<◌, ◌≤◌}
use Rattle.plans.specs.Plan.{claim_at}
use Rattle.claim_check.specs.Judged.{PassesAt}
use Rattle.claim_check.proofs.chunks.lowest_in.Given as goal

abbrev pub invariant-loop-position : goal.invariant-loop-position
invariant-loop-position l = (k : ℕ) → l.from ≤ k → k < l.position → PassesAt l.view.positions (claim_at l.view.claims) k
