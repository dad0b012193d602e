-- Plans with a certified bound: an order of the tasks of a system, its peak, a bound that no order has a peak below, and evidence for that.
-- They are this project's own.
use Rattle.std.specs.Prelude.{ℕ, ◌+◌, ◌≤◌, List, length, All}
use Rattle.std.specs.List.{sum_by}
use Rattle.limits.specs.Limits.{most_tasks, most_positions, most_total}
use Rattle.plans.specs.declared.claim.Claim.{Claim}
use Rattle.plans.specs.Plan.{most_number, IsClaimWithin, RiseFrom}
use Rattle.peak_bounds.specs.EventSets.{BlockerValue, EventSetValue}
use Rattle.peak_bounds.specs.Evidence.{AreAmounts}
use Rattle.peak_bounds.specs.declared.evidence.Evidence.TheVariants.{Start, Need, Set}
use Rattle.bounded_plans.specs.declared.evidence.BoundEvidence.{BoundEvidence}
use Rattle.bounded_plans.specs.declared.evidence.BoundEvidence.TheVariants.{Sums, Claims, States}

-- a plan with a bound, as clauses see it
pub record BoundedPlanValue : Type 0 where
  pub order : List ℕ
  pub peak : ℕ
  pub bound : ℕ
  pub evidence : BoundEvidence

-- how many amounts a set tells of, its own and those of all its blockers
abbrev pub own_count : BlockerValue → ℕ
own_count blocker = length blocker.amounts

abbrev pub amount_count : EventSetValue → ℕ
amount_count set = length set.base + sum_by own_count set.blockers

-- what a blocker and a set keep to, whatever the system: places from 1 that rise, amounts from -2^60 to 2^60, and few enough of them that
-- the text of a plan with them is one of a file
pub record IsBlockerWithin (blocker : BlockerValue) : Type 0 where
  pub task : blocker.task ≤ most_number
  pub amounts : AreAmounts most_number blocker.amounts

pub record IsSetWithin (set : EventSetValue) : Type 0 where
  pub base : AreAmounts most_number set.base
  pub few : length set.blockers ≤ most_tasks
  pub blockers : All IsBlockerWithin set.blockers
  pub few_amounts : amount_count set ≤ most_positions

-- what claims keep to, as those of a plan
pub record AreClaimsWithin (claims : List Claim) : Type 0 where
  pub few : length claims ≤ most_positions
  pub each : All IsClaimWithin claims
  pub rising : RiseFrom 0 claims

-- what evidence keeps to: task 0 is no task, so the need of a task is that of a number from 1
abbrev pub IsWithin : BoundEvidence → Type 0
IsWithin (Sums Start) = Unit {0}
IsWithin (Sums (Need task)) = (1 ≤ task) × (task ≤ most_number)
IsWithin (Sums (Set set)) = IsSetWithin set
IsWithin (Claims claims) = AreClaimsWithin claims
IsWithin (States most) = most ≤ most_number

pub record IsBoundedPlan (plan : BoundedPlanValue) : Type 0 where
  pub few_tasks : length plan.order ≤ most_tasks
  pub tasks : All (λ v. v ≤ most_number) plan.order
  pub peak : plan.peak ≤ most_total
  pub bound : plan.bound ≤ most_total
  pub evidence : IsWithin plan.evidence
