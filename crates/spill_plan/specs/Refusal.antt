-- What a refused spill tells.
use Rattle.std.specs.Prelude.{◌≡◌, ℕ, List}
use Rattle.mp_system.specs.declared.order.ReplayRefusal.{ReplayRefusal}
use Rattle.mp_system.specs.declared.order.ReplayRefusal.TheVariants as replays
use Rattle.mp_system.specs.System.{TaskSystem}
use Rattle.mp_system.specs.Traversal.{IsTraversal}
use Rattle.mp_system.specs.Refusal.{IsOrderRefusal}
use Rattle.spill_plan.specs.declared.refusal.SpillRefusal.{SpillRefusal}
use Rattle.spill_plan.specs.declared.refusal.SpillRefusal.TheVariants as refusals
use Rattle.shared_systems.specs.Shared.{SharedTaskSystem}
use Rattle.shared_systems.specs.SharedTraversal.{IsSharedTraversal, IsSharedOrderRefusal}
use Rattle.spill_plan.specs.SpillPlans.{IsWorkingSet}
use Rattle.spill_plan.specs.Gaps.{IsGapWorkingSet}

-- the order is no traversal, and the refusal has its first fault; or it is one, and the refusal has the first step that needs more for
-- itself than the bound; want of memory tells nothing
abbrev pub IsSpillRefusal : TaskSystem → List ℕ → ℕ → SpillRefusal → Type 0
IsSpillRefusal system order bound (refusals.Order fault) = IsOrderRefusal system order (replays.Order fault)
IsSpillRefusal system order bound (refusals.WorkingSet step need stated) =
    IsTraversal system order × IsWorkingSet system order bound step need × (stated ≡ bound)
IsSpillRefusal system order bound refusals.NoMemory = Unit {0}

-- the same of a system in which an item may have several readers
abbrev pub IsGapRefusal : SharedTaskSystem → List ℕ → ℕ → SpillRefusal → Type 0
IsGapRefusal system order bound (refusals.Order fault) = IsSharedOrderRefusal system order (replays.Order fault)
IsGapRefusal system order bound (refusals.WorkingSet step need stated) =
    IsSharedTraversal system order × IsGapWorkingSet system order bound step need × (stated ≡ bound)
IsGapRefusal system order bound refusals.NoMemory = Unit {0}

-- a refused order is refused in the same words
abbrev pub spill_refusal_of : ReplayRefusal → SpillRefusal
spill_refusal_of (replays.Order fault) = refusals.Order fault
spill_refusal_of replays.NoMemory = refusals.NoMemory
