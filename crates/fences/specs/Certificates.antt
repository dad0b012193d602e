-- Fences for a shared system, with a bound and the amounts that certify it; and what they are refused with.
use Rattle.std.specs.Prelude.{◌≡◌, ◌≢◌, ℕ, ◌+◌, ◌*◌, ◌-◌, ◌<◌, ◌≤◌, List, [], ◌∷◌, ◌++◌, if◌then◌else◌, length}
use Rattle.lists.specs.Numbers.{Each, IsFirstWithout}
use Rattle.shared_systems.specs.Shared.{SharedTaskSystem, SharedItem}
use Rattle.shared_systems.specs.Collected.{HasRoom, collected, is_shared}
use Rattle.fences.specs.declared.fenced.Fence.{Fence}
use Rattle.fences.specs.declared.fenced.FencesRefusal.{FencesRefusal}
use Rattle.fences.specs.declared.fenced.FencesRefusal.TheVariants as fences_refusals
use Rattle.fences.specs.declared.certificate.Workers.{Workers}
use Rattle.fences.specs.declared.certificate.Workers.TheVariants as workers
use Rattle.fences.specs.declared.certificate.CertificateRefusal.{CertificateRefusal}
use Rattle.fences.specs.declared.certificate.CertificateRefusal.TheVariants as refusals
use Rattle.fences.specs.Workers.{relieved}
use Rattle.fences.specs.JudgedFences.{Certify, IsFencesRefusal, fence_at}

-- a bound, for how many workers, the items that have joins, by their places from 1, the fences, and the amounts that are handed on along the
-- items of the collected system and the fences
pub record Certificate : Type 0 where
  pub bound : ℕ
  pub workers : Workers
  pub joins : List ℕ
  pub fences : List Fence
  pub amounts : List ℕ

-- the room that is set aside for each worker, and for all of them
abbrev pub room_of : Workers → ℕ
room_of workers.Any = 0
room_of (workers.AtMost count room) = room

abbrev pub reserve_of : Workers → ℕ
reserve_of workers.Any = 0
reserve_of (workers.AtMost count room) = count * room

-- the places of the items with several readers
abbrev pub join_places_from : ℕ → List SharedItem → List ℕ
join_places_from place [] = []
join_places_from place (x ∷ xs) =
    (if is_shared x then place ∷ [] else []) ++ join_places_from (place + 1) xs

abbrev pub join_places : SharedTaskSystem → List ℕ
join_places system = join_places_from 1 system.items

-- only tasks wait
abbrev pub IsForTask : SharedTaskSystem → List Fence → ℕ → Type 0
IsForTask system fences place = (fence_at fences place).to ≤ length system.tasks

-- the joins are those of the system
pub record HasJoins (system : SharedTaskSystem) (certificate : Certificate) : Type 0 where
  pub room : HasRoom system
  pub joins : certificate.joins ≡ join_places system

-- and what is set aside for the workers leaves room, and only tasks wait
pub record IsForTasks (system : SharedTaskSystem) (certificate : Certificate) : Type 0 where
  pub has_joins : HasJoins system certificate
  pub reserve : reserve_of certificate.workers ≤ certificate.bound
  pub tasks : Each (length certificate.fences) (IsForTask system certificate.fences)

-- and the amounts certify what is left of the bound, where each task needs less by the room of its worker
pub record Certifies (system : SharedTaskSystem) (certificate : Certificate) : Type 0 where
  pub for_tasks : IsForTasks system certificate
  pub certify : Certify (relieved (room_of certificate.workers) (collected system)) certificate.fences certificate.amounts
      (certificate.bound - reserve_of certificate.workers)

-- the same under another name
abbrev pub of_fences : FencesRefusal → CertificateRefusal
of_fences fences_refusals.NoMemory = refusals.NoMemory
of_fences refusal = refusals.Fences refusal

-- the first test that fails; want of memory tells nothing
abbrev pub IsCertificateRefusal : SharedTaskSystem → Certificate → CertificateRefusal → Type 0
IsCertificateRefusal system certificate refusals.ManyJoins = ¬ HasRoom system
IsCertificateRefusal system certificate refusals.Joins = HasRoom system × (certificate.joins ≢ join_places system)
IsCertificateRefusal system certificate refusals.Reserve =
    HasJoins system certificate × (certificate.bound < reserve_of certificate.workers)
IsCertificateRefusal system certificate (refusals.JoinWaits place) =
    HasJoins system certificate
    × (reserve_of certificate.workers ≤ certificate.bound)
    × IsFirstWithout (length certificate.fences) (IsForTask system certificate.fences) place
IsCertificateRefusal system certificate (refusals.Fences refusal) =
    IsForTasks system certificate
    × IsFencesRefusal (relieved (room_of certificate.workers) (collected system)) certificate.fences certificate.amounts
    (certificate.bound - reserve_of certificate.workers) refusal
IsCertificateRefusal system certificate refusals.NoMemory = Unit {0}
