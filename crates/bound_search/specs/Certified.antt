-- No public clause names this.
-- What a bound with its evidence has to meet.
use Rattle.std.specs.Prelude.{ℕ, ◌≤◌}
use Rattle.limits.specs.Limits.{most_total}
use Rattle.shared_systems.specs.Shared.{SharedTaskSystem, HasTask}
use Rattle.peak_bounds.specs.Evidence.{IsEvidence, memory_at_start, memory_of_task}
use Rattle.bounded_plans.specs.declared.evidence.BoundEvidence.TheVariants.{Sums}
use Rattle.bounded_plans.specs.BoundedPlan.{IsWithin}
use Rattle.bound_search.specs.declared.certified.CertifiedBound.{CertifiedBound}

-- the evidence shows the bound, and both are within the limits
pub record IsShown (system : SharedTaskSystem) (c : CertifiedBound) : Type 0 where
  pub evidence : IsEvidence system c.evidence c.bound
  pub within : IsWithin (Sums c.evidence)
  pub small : c.bound ≤ most_total

-- and the bound is no less than what one task reads and needs, or what is there at the start
pub record IsCertified (system : SharedTaskSystem) (c : CertifiedBound) : Type 0 where
  pub shown : IsShown system c
  pub needs : (t : ℕ) → HasTask system t → memory_of_task system t ≤ c.bound
  pub start : memory_at_start system ≤ c.bound
