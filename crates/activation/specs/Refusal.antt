-- What a refused core tells.
use Rattle.std.specs.Prelude.{◌≡◌, ℕ, ◌<◌, List}
use Rattle.mp_system.specs.declared.order.ReplayRefusal.{ReplayRefusal}
use Rattle.mp_system.specs.declared.order.ReplayRefusal.TheVariants as replays
use Rattle.shared_systems.specs.Shared.{SharedTaskSystem}
use Rattle.shared_systems.specs.SharedMemory.{shared_peak_of}
use Rattle.shared_systems.specs.SharedTraversal.{IsSharedTraversal}
use Rattle.shared_systems.specs.SharedTraversal.{IsSharedOrderRefusal}
use Rattle.activation.specs.declared.refusal.CoreRefusal.{CoreRefusal}
use Rattle.activation.specs.declared.refusal.CoreRefusal.TheVariants as refusals

-- the order is no traversal, and the refusal has its first fault; or it is one, and its peak passes the bound; want of memory tells nothing
abbrev pub IsCoreRefusal : SharedTaskSystem → List ℕ → ℕ → CoreRefusal → Type 0
IsCoreRefusal system order bound (refusals.Order fault) = IsSharedOrderRefusal system order (replays.Order fault)
IsCoreRefusal system order bound (refusals.BoundBelow stated peak) =
    IsSharedTraversal system order × (stated ≡ bound) × (peak ≡ shared_peak_of system order) × (bound < peak)
IsCoreRefusal system order bound refusals.NoMemory = Unit {0}

-- a refused order is refused alike
abbrev pub same_refusal : ReplayRefusal → CoreRefusal
same_refusal (replays.Order fault) = refusals.Order fault
same_refusal replays.NoMemory = refusals.NoMemory
