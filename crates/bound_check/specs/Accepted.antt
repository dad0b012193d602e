-- Accepted plans with a bound, and what is said of a plan.
use Rattle.std.specs.Prelude.{◌≡◌, ℕ, ◌<◌, ◌≤◌, List}
use Rattle.shared_systems.specs.Shared.{SharedTaskSystem}
use Rattle.shared_systems.specs.SharedMemory.{shared_peak_of}
use Rattle.shared_systems.specs.SharedTraversal.{IsSharedTraversal, IsLeastShared}
use Rattle.bounded_plans.specs.BoundedPlan.{BoundedPlanValue}
use Rattle.bound_check.specs.Shown.{IsShown}
use Rattle.bound_check.specs.Objections.{IsBoundObjection}
use Rattle.bound_check.specs.declared.verdict.BoundVerdict.{BoundVerdict}
use Rattle.bound_check.specs.declared.verdict.BoundVerdict.TheVariants.{Least, Above, No}

-- the order is a traversal, its peak is the plan's, and the evidence shows that no traversal has a peak below the bound
pub record IsBoundAccepted (system : SharedTaskSystem) (plan : BoundedPlanValue) : Type 0 where
  pub traversal : IsSharedTraversal system plan.order
  pub peak : shared_peak_of system plan.order ≡ plan.peak
  pub shown : IsShown system plan.evidence plan.bound

-- an accepted plan whose bound is its peak, one whose bound is below it, and any other, with its first objection
abbrev pub IsBoundVerdict : SharedTaskSystem → BoundedPlanValue → BoundVerdict → Type 0
IsBoundVerdict system plan (Least peak) = IsBoundAccepted system plan × (plan.peak ≡ peak) × (plan.bound ≡ peak)
IsBoundVerdict system plan (Above peak bound) =
    IsBoundAccepted system plan × (plan.peak ≡ peak) × (plan.bound ≡ bound) × (bound < peak)
IsBoundVerdict system plan (No objection) = IsBoundObjection system plan objection

-- what a yes says of the system, whatever the evidence was
abbrev pub IsCertified : SharedTaskSystem → List ℕ → BoundVerdict → Type 0
IsCertified system order (Least peak) =
    IsSharedTraversal system order × (shared_peak_of system order ≡ peak) × IsLeastShared system peak
IsCertified system order (Above peak bound) =
    IsSharedTraversal system order × (shared_peak_of system order ≡ peak) × (bound < peak)
    × ((other : List ℕ) → IsSharedTraversal system other → bound ≤ shared_peak_of system other)
IsCertified system order (No objection) = Unit {0}
