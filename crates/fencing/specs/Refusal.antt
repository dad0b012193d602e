-- Why no fences are made along an order, and no certificate.
use Rattle.std.specs.Prelude.{◌≡◌, ℕ, ◌+◌, ◌*◌, ◌<◌, ◌≤◌, List, length}
use Rattle.limits.specs.Limits.{most_positions}
use Rattle.mp_system.specs.System.{TaskSystem}
use Rattle.mp_system.specs.Memory.{peak_of}
use Rattle.mp_system.specs.Traversal.{IsTraversal}
use Rattle.mp_system.specs.Refusal.{IsOrderRefusal}
use Rattle.mp_system.specs.declared.order.ReplayRefusal.{ReplayRefusal}
use Rattle.mp_system.specs.declared.order.ReplayRefusal.TheVariants as replays
use Rattle.shared_systems.specs.Shared.{SharedTaskSystem}
use Rattle.shared_systems.specs.SharedMemory.{shared_peak_of}
use Rattle.shared_systems.specs.SharedTraversal.{IsSharedTraversal, IsSharedOrderRefusal}
use Rattle.shared_systems.specs.Collected.{HasRoom, collected}
use Rattle.fencing.specs.declared.fencing.FencingRefusal.{FencingRefusal}
use Rattle.fencing.specs.declared.fencing.FencingRefusal.TheVariants as refusals
use Rattle.fencing.specs.declared.certificate.CertifyingRefusal.{CertifyingRefusal}
use Rattle.fencing.specs.declared.certificate.CertifyingRefusal.TheVariants as certifying

-- the order is no traversal, and this is its first fault; or its peak is above the bound; or there are so many items that the limit does not
-- leave two fences for each task; want of memory tells nothing
abbrev pub IsFencingRefusal : TaskSystem → List ℕ → ℕ → FencingRefusal → Type 0
IsFencingRefusal system order bound (refusals.Order fault) = IsOrderRefusal system order (replays.Order fault)
IsFencingRefusal system order bound (refusals.Bound peak) =
    IsTraversal system order × (peak ≡ peak_of system order) × (bound < peak)
IsFencingRefusal system order bound refusals.ManyFences =
    IsTraversal system order × (peak_of system order ≤ bound)
    × (most_positions < length system.items + 2 * length system.tasks)
IsFencingRefusal system order bound refusals.NoMemory = Unit {0}

-- the same under another name
abbrev pub of_replay : ReplayRefusal → FencingRefusal
of_replay (replays.Order fault) = refusals.Order fault
of_replay replays.NoMemory = refusals.NoMemory

-- no certificate is made: the order is no traversal, and this is its first fault; or its peak is above the bound; or with its joins the system
-- has more tasks or items than a system may have; or there are so many items that the limit does not leave two fences for each task and join; want
-- of memory tells nothing
abbrev pub IsCertifyingRefusal : SharedTaskSystem → List ℕ → ℕ → CertifyingRefusal → Type 0
IsCertifyingRefusal system order bound (certifying.Order fault) = IsSharedOrderRefusal system order (replays.Order fault)
IsCertifyingRefusal system order bound (certifying.Bound peak) =
    IsSharedTraversal system order × (peak ≡ shared_peak_of system order) × (bound < peak)
IsCertifyingRefusal system order bound certifying.ManyJoins =
    IsSharedTraversal system order × (shared_peak_of system order ≤ bound) × (¬ HasRoom system)
IsCertifyingRefusal system order bound certifying.ManyFences =
    IsSharedTraversal system order × (shared_peak_of system order ≤ bound) × HasRoom system
    × (most_positions < length (collected system).items + 2 * length (collected system).tasks)
IsCertifyingRefusal system order bound certifying.NoMemory = Unit {0}

-- the same under another name
abbrev pub certifying_of_replay : ReplayRefusal → CertifyingRefusal
certifying_of_replay (replays.Order fault) = certifying.Order fault
certifying_of_replay replays.NoMemory = certifying.NoMemory

abbrev pub of_fencing : FencingRefusal → CertifyingRefusal
of_fencing (refusals.Order fault) = certifying.Order fault
of_fencing (refusals.Bound peak) = certifying.Bound peak
of_fencing refusals.ManyFences = certifying.ManyFences
of_fencing refusals.NoMemory = certifying.NoMemory
